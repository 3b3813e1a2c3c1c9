use Rattle.std.proofs.Common.{◌≡◌, ◌<◌, ◌+◌, ℕ, List, length, map, get_or, sym, ap, subst, ◌∙◌, arith}
use Rattle.diag_gate.specs.declared.door.GateDoor.{GateDoor}
use Rattle.diag_gate.specs.Seats.{SeatView}
use Rattle.diag_desk.specs.declared.entry.Entry.{Entry}
use Rattle.diag_workers.specs.declared.keeping.Unkept.{Unkept}
use Rattle.diag_workers.specs.declared.watch.WatchedDoor.{WatchedDoor}
use Rattle.diag_workers.specs.Seating.{Back}
use Rattle.diag_workers.proofs.Headlines.{opened, doors_placed, host_gate, seat_gate, seats_many, seats_home, home_again, headline}
use Rattle.diag_workers.proofs.playing.play_logs.Goals as goal

abbrev nothing : Unkept → List Entry → Type 0
nothing kept entries = Unit {0}

pub doors_of-requires : goal.doors_of-requires
doors_of-requires g c k s low =
    seat_gate c.in_ok-gate.host c.give_out.new.host _ c.in_ok-seats.seats.items c.in_ok-seats.ensures k s low
    ∙ host_gate c.in_ok-gate.host c.in_ok-gate.gate c.in_ok-desk.desk c.in_ok-gate.ensures

pub crew_keeping-requires-clause-doors : goal.crew_keeping-requires-clause-doors
crew_keeping-requires-clause-doors g c κs within =
    let setup = c.args.setup.now in
    let h = c.in_ok-gate.host in
    let o = opened setup h c.in_ok-gate.gate c.in_ok-desk.desk c.in_ok-desk.ensures c.in_ok-gate.ensures in
    doors_placed {D = WatchedDoor (GateDoor g.row.R.Denot) g.row.W.Denot} (λ d. d.door) setup h c.give_out.new.host c.testers.result
    (length setup.testers) c.in_ok-seats.seats.items c.in_ok-doors.doors.items c.testers.ensures.few
    c.testers.ensures.same o c.in_ok-seats.ensures c.in_ok-doors.ensures

pub take_in-requires-clause-room : goal.take_in-requires-clause-room
take_in-requires-clause-room g c =
    let setup = c.args.setup.now in
    let h = c.in_ok-gate.host in
    let o = opened setup h c.in_ok-gate.gate c.in_ok-desk.desk c.in_ok-desk.ensures c.in_ok-gate.ensures in
    let many = seats_many {D = WatchedDoor (GateDoor g.row.R.Denot) g.row.W.Denot} (λ d. d.door) nothing setup h c.give_out.new.host c.testers.result
    c.testers.ensures.few c.in_ok-seats.seats.items (map (λ log. log.items) c.args.logs.now)
    c.in_ok-doors.doors.items c.in_ok-done.done.items o c.in_ok-seats.ensures c.in_ok-doors.ensures c.in_ok-done.ensures in
    omega (arith, ap length c.in_ok-seats-2.ensures.seats, many, c.testers.ensures.few, c.in_ok-seats.ensures.wide, o.wide)

pub take_in-requires-clause-seats : goal.take_in-requires-clause-seats
take_in-requires-clause-seats g c k s low =
    let setup = c.args.setup.now in
    let h = c.in_ok-gate.host in
    let o = opened setup h c.in_ok-gate.gate c.in_ok-desk.desk c.in_ok-desk.ensures c.in_ok-gate.ensures in
    let home = seats_home {D = WatchedDoor (GateDoor g.row.R.Denot) g.row.W.Denot} (λ d. d.door) nothing setup h c.give_out.new.host c.testers.result
    c.testers.ensures.few c.in_ok-seats.seats.items (map (λ log. log.items) c.args.logs.now)
    c.in_ok-doors.doors.items c.in_ok-done.done.items o c.in_ok-seats.ensures c.in_ok-doors.ensures c.in_ok-done.ensures in
    let r = subst (λ (l : List SeatView). (k : ℕ) (s : SeatView) → k < length l → ((get_or l k s).gate ≡ h.gate) × ((get_or l k s).who ≡ k + 1))
    (sym c.in_ok-seats-2.ensures.seats) home k s low in
    (r.0 ∙ host_gate h c.in_ok-gate.gate c.in_ok-desk.desk c.in_ok-gate.ensures, r.1)

pub close-desk-requires-clause-home : goal.close-desk-requires-clause-home
close-desk-requires-clause-home g c =
    let setup = c.args.setup.now in
    let h = c.in_ok-gate.host in
    let o = opened setup h c.in_ok-gate.gate c.in_ok-desk.desk c.in_ok-desk.ensures c.in_ok-gate.ensures in
    let many = seats_many {D = WatchedDoor (GateDoor g.row.R.Denot) g.row.W.Denot} (λ d. d.door) nothing setup h c.give_out.new.host c.testers.result
    c.testers.ensures.few c.in_ok-seats.seats.items (map (λ log. log.items) c.args.logs.now)
    c.in_ok-doors.doors.items c.in_ok-done.done.items o c.in_ok-seats.ensures c.in_ok-doors.ensures c.in_ok-done.ensures in
    home_again setup h c.give_out.new.host c.take_in.new.host c.testers.result c.in_ok-seats.seats.items c.in_ok-seats-2.seats.items
    c.testers.ensures.few (ap length c.in_ok-seats-2.ensures.seats ∙ many) o c.in_ok-seats.ensures c.take_in.ensures

pub returns : goal.returns
returns g c =
    let setup = c.args.setup.now in
    let h = c.in_ok-gate.host in
    let o = opened setup h c.in_ok-gate.gate c.in_ok-desk.desk c.in_ok-desk.ensures c.in_ok-gate.ensures in
    headline {D = WatchedDoor (GateDoor g.row.R.Denot) g.row.W.Denot} (λ d. d.door) nothing setup h c.give_out.new.host c.take_in.new.host
    c.testers.result c.testers.ensures.few c.in_ok-seats.seats.items (map (λ log. log.items) c.args.logs.now)
    c.in_ok-doors.doors.items c.in_ok-done.done.items c.close-desk.result o c.in_ok-seats.ensures c.in_ok-doors.ensures c.in_ok-done.ensures
    (subst (Back c.give_out.new.host c.take_in.new.host) c.in_ok-seats-2.ensures.seats c.take_in.ensures)
    c.weaving_law.ensures c.close-desk.ensures c.journal-journal.ensures.journal.0 (map (λ s. s.items) c.in_ok-seats-2.sent.items) c.in_ok-seats-2.ensures.sent
