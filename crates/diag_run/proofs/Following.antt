-- A capture that is read to its end, or up to a fault.
use Rattle.std.proofs.Common.{◌≡◌, ◌≢◌, ◌⊎◌, ℕ, ◌+◌, ◌<◌, ◌≤◌, List, [], ◌++◌, length, Option, Result, inl, inr, refl, sym, ap, subst, length-append, arith}
use Rattle.std.specs.Io.KnownBytes.{Appends, Consumes, IsAtEnd, Keeps}
use Rattle.std.proofs.KnownBytes.{Appends-nil, Appends-trans, Consumes-kept, Consumes-nil, Consumes-trans}
use Rattle.diag_setup.specs.declared.raw.RawSetup.{RawSetup}
use Rattle.diag_desk.specs.declared.entry.Entry.{Entry}
use Rattle.diag_can.specs.BusLine.{bus_lines}
use Rattle.diag_bus.specs.Bus.{BusState}
use Rattle.diag_bus.specs.declared.sink.Sink.{Ghosts}
use Rattle.diag_bus.specs.Events.{events_of, unless_fault}
use Rattle.diag_bus.proofs.Runs.{run}
use Rattle.diag_text.specs.Bytes.{Sends, Takes}
use Rattle.diag_run.specs.Capture.{Followed, StopsReading}
use Rattle.diag_run.specs.Capturing.{Closes, FollowedFrom, GoesOn, HaltsAtEnd, HaltsIn, Stands, StopsFrom, StopsWithin, fault_of}
use Rattle.diag_run.specs.Files.{SaysSetup, ConfigEnds}
use Rattle.diag_run.specs.Wanted.{End, Wanted, wanted}
use Rattle.diag_run.specs.declared.capture.Capture.{Capture}
use Rattle.diag_run.specs.declared.capture.CaptureFault.{CaptureFault}
use Rattle.diag_run.specs.declared.capture.CaptureFault.TheVariants.{Line, Memory, Otherwise, Read, Write}
use Rattle.diag_text.specs.declared.fault.RunFault.{RunFault}
use Rattle.diag_text.specs.declared.fault.RunFault.TheVariants as run_fault
use Rattle.diag_run.proofs.Pieces.{GoesOn-trans, halts_within, later_within, read_fails, refused_at, stops_at, stops_at_end}

module _ {S A : Type 0} (g : Ghosts S) (took : S → RawSetup → List (List ℕ) → List Entry → Type 0) (aim : S → A) (written : A → RawSetup → List (List ℕ) → List ℕ)
    (ends : S → RawSetup → List (List ℕ) → Result End (List ℕ)) where
  abbrev want_of : S → Wanted
  want_of = wanted written ends aim

  -- so much of the capture was read, and all that was due was written
  pub record ReadSoFar (old new : Capture S g) (r r' w w' : Option (List ℕ)) : Type 0 where
    pub bytes : List ℕ
    pub read : Consumes r r' bytes
    pub sent : List ℕ
    pub sends : Appends w w' sent
    pub on : GoesOn took want_of old new bytes sent
    pub none : new.text.items ≡ []

  module _ (old mid : Capture S g) (r r' r'' w w' w'' : Option (List ℕ)) (so_far : ReadSoFar old mid r r' w w') where
    unfoldable pub one_piece_more : (new : Capture S g) (piece : List ℕ) → Consumes r' r'' piece → Sends w' w'' (GoesOn took want_of mid new piece) → new.text.items ≡ []
        → ReadSoFar old new r r'' w w''
    one_piece_more new piece read sends none = record {
      bytes = so_far.bytes ++ piece;
      read = Consumes-trans r r' r'' so_far.bytes piece so_far.read read;
      sent = so_far.sent ++ sends.0;
      sends = Appends-trans w w' w'' so_far.sent sends.0 so_far.sends sends.1;
      on = GoesOn-trans g took aim written ends old mid new so_far.bytes piece so_far.sent sends.0 so_far.on sends.2;
      none = none;
    }

    pub so_far_stops : (fault : CaptureFault) (piece : List ℕ) → Consumes r' r'' piece → Sends w' w'' (HaltsIn took want_of mid fault piece)
        → Takes r r'' (λ bytes. Sends w w'' (StopsWithin took want_of old fault bytes))
    so_far_stops fault piece read sends = (
      so_far.bytes ++ piece,
      Consumes-trans r r' r'' so_far.bytes piece so_far.read read,
      (
        so_far.sent ++ sends.0,
        Appends-trans w w' w'' so_far.sent sends.0 so_far.sends sends.1,
        later_within g took aim written ends old mid so_far.bytes piece so_far.sent sends.0 fault so_far.on (halts_within g took aim written ends mid fault piece sends.0 sends.2),
      ),
    )

  module _ (old mid : Capture S g) (r r' r'' w w' : Option (List ℕ)) (so_far : ReadSoFar old mid r r' w w') where
    -- the next read failed
    pub so_far_fails : (fault : CaptureFault) → fault ≡ Read → Keeps r' r'' → Takes r r'' (λ bytes. Sends w w' (StopsWithin took want_of old fault bytes))
    so_far_fails fault is kept = subst (λ (f : CaptureFault). Takes r r'' (λ bytes. Sends w w' (StopsWithin took want_of old f bytes))) (sym is) (
      so_far.bytes,
      Consumes-kept r r' r'' so_far.bytes so_far.read kept,
      (so_far.sent, so_far.sends, read_fails g took aim written ends old mid so_far.bytes so_far.sent so_far.on so_far.none),
    )

  -- ---- from the first read on

  -- the first read failed
  pub first_read_fails : (want : Wanted) (setup : RawSetup) (r r' w : Option (List ℕ)) (fault : CaptureFault) → fault ≡ Read → Keeps r r'
      → StopsFrom want setup r r' w w fault
  first_read_fails want setup r r' w fault is kept = subst (StopsFrom want setup r r' w w) (sym is) (record {
    seen = [];
    read = Consumes-kept r r r' [] (Consumes-nil r) kept;
    wrote = [];
    sent = Appends-nil w;
    stops = (refl, inl (refl, refl));
  })

  -- memory was refused before a line was taken
  pub first_refused : (want : Wanted) (setup : RawSetup) (r r' w : Option (List ℕ)) (bytes : List ℕ) (fault : CaptureFault) → fault ≡ Memory
      → Consumes r r' bytes
      → StopsFrom want setup r r' w w fault
  first_refused want setup r r' w bytes fault is read = subst (StopsFrom want setup r r' w w) (sym is) (record {
    seen = bytes;
    read = read;
    wrote = [];
    sent = Appends-nil w;
    stops = refused_at g took aim written ends want setup bytes r';
  })

  module _ (begun : Capture S g) (bus : BusState S) (same : begun.bus ≡ bus) (stands : Stands took want_of begun [] []) (r r' w w' : Option (List ℕ)) (bytes : List ℕ)
      (read : Consumes r r' bytes) where
    pub stops_from : (fault : CaptureFault) → Sends w w' (StopsWithin took want_of begun fault bytes) → StopsFrom (want_of bus.sink) bus.setup r r' w w' fault
    stops_from fault sends = subst (λ (b : BusState S). StopsFrom (want_of b.sink) b.setup r r' w w' fault) same (record {
      seen = bytes;
      read = read;
      wrote = sends.0;
      sent = sends.1;
      stops = stops_at g took aim written ends (want_of begun.bus.sink) begun.bus.setup bytes sends.0 fault r' (sends.2 [] [] stands);
    })

    module _ (mid : Capture S g) (w'' : Option (List ℕ)) (on : Sends w w' (GoesOn took want_of begun mid bytes)) (end : IsAtEnd r') where
      pub stops_from_end : (fault : CaptureFault) → Sends w' w'' (HaltsAtEnd took want_of mid fault) → StopsFrom (want_of bus.sink) bus.setup r r' w w'' fault
      stops_from_end fault halts =
          let goes = on.2 in
          subst (λ (b : BusState S). StopsFrom (want_of b.sink) b.setup r r' w w'' fault) same
          (subst (λ (o : Wanted). StopsFrom o begun.bus.setup r r' w w'' fault) goes.want
          (subst (λ (u : RawSetup). StopsFrom (want_of mid.bus.sink) u r r' w w'' fault) goes.setup
          (record {
            seen = bytes;
            read = read;
            wrote = on.0 ++ halts.0;
            sent = Appends-trans w w' w'' on.0 halts.0 on.1 halts.1;
            stops = stops_at_end g took aim written ends (want_of mid.bus.sink) mid.bus.setup bytes (on.0 ++ halts.0) fault r' end (halts.2 bytes on.0 (goes.stands [] [] stands));
          })))

      pub followed_from : (new : Capture S g) (status : ℕ) → Sends w' w'' (Closes took want_of mid new status)
          → FollowedFrom (want_of bus.sink) bus.setup r r' w w'' status
      followed_from new status closes =
          let goes = on.2 in
          let here = closes.2 bytes on.0 (goes.stands [] [] stands) in
          subst (λ (b : BusState S). FollowedFrom (want_of b.sink) b.setup r r' w w'' status) same
          (subst (λ (o : Wanted). FollowedFrom o begun.bus.setup r r' w w'' status) goes.want
          (subst (λ (u : RawSetup). FollowedFrom (want_of mid.bus.sink) u r r' w w'' status) goes.setup
          (record {
            bytes = bytes;
            read = read;
            end = end;
            well = here.0;
            ended = here.1;
            text = subst (Appends w w'') here.2 (Appends-trans w w' w'' on.0 closes.0 on.1 closes.1);
          })))

  -- ---- behind the config

  module _ (want want' : Wanted) (setup setup' : RawSetup) (same_want : want' ≡ want) (same_setup : setup' ≡ setup)
      (config config' r r' w w' : Option (List ℕ)) (says : SaysSetup config config' setup) where
    pub followed : (status : ℕ) → FollowedFrom want' setup' r r' w w' status → Followed want config config' r r' w w' status
    followed status from =
        let here : FollowedFrom want setup r r' w w' status =
        subst (λ (o : Wanted). FollowedFrom o setup r r' w w' status) same_want (subst (λ (u : RawSetup). FollowedFrom want' u r r' w w' status) same_setup from) in
        let M = events_of setup (bus_lines here.bytes) in
        record {
          setup = setup;
          says = says;
          bytes = here.bytes;
          read = here.read;
          end = here.end;
          M = M;
          events = ap (unless_fault M) here.well;
          run = run setup M;
          ended = here.ended;
          text = here.text;
        }

    pub stops_reading : (fault : CaptureFault) → StopsFrom want' setup' r r' w w' fault → StopsReading want config config' r r' w w' (fault_of fault)
    stops_reading fault from =
        let here : StopsFrom want setup r r' w w' fault =
        subst (λ (o : Wanted). StopsFrom o setup r r' w w' fault) same_want (subst (λ (u : RawSetup). StopsFrom want' u r r' w w' fault) same_setup from) in
        record { setup = setup; says = says; seen = here.seen; read = here.read; wrote = here.wrote; sent = here.sent; stops = here.stops }

  -- memory was refused behind the config
  pub refused_behind : (want : Wanted) (setup : RawSetup) (config config' r w : Option (List ℕ)) → SaysSetup config config' setup
      → StopsReading want config config' r r w w (fault_of Memory)
  refused_behind want setup config config' r w says =
      stops_reading want want setup setup refl refl config config' r r w w says Memory (first_refused want setup r r w [] Memory refl (Consumes-nil r))

  -- what follows the first piece
  module _ (begun mid : Capture S g) (r r' r'' w w' w'' : Option (List ℕ)) (piece : List ℕ) (read : Consumes r r' piece)
      (on : Sends w w' (GoesOn took want_of begun mid piece)) where
    pub then_on : (new : Capture S g) → Takes r' r'' (λ bytes. Sends w' w'' (GoesOn took want_of mid new bytes)) → Takes r r'' (λ bytes. Sends w w'' (GoesOn took want_of begun new bytes))
    then_on new next =
        let sends = next.2 in (
          piece ++ next.0,
          Consumes-trans r r' r'' piece next.0 read next.1,
          (on.0 ++ sends.0, Appends-trans w w' w'' on.0 sends.0 on.1 sends.1, GoesOn-trans g took aim written ends begun mid new piece next.0 on.0 sends.0 on.2 sends.2),
        )

    pub then_stops : (fault : CaptureFault) → Takes r' r'' (λ bytes. Sends w' w'' (StopsWithin took want_of mid fault bytes))
        → Takes r r'' (λ bytes. Sends w w'' (StopsWithin took want_of begun fault bytes))
    then_stops fault next =
        let sends = next.2 in (
          piece ++ next.0,
          Consumes-trans r r' r'' piece next.0 read next.1,
          (on.0 ++ sends.0, Appends-trans w w' w'' on.0 sends.0 on.1 sends.1, later_within g took aim written ends begun mid piece next.0 on.0 sends.0 fault on.2 sends.2),
        )

-- ---- why it is given up

-- a read failed, or so many bytes were read, behind a piece that has no more lines than bytes
pub given_up : {F : Type 0} (n lines : ℕ) (r r' r'' : Option (List ℕ)) (piece : List ℕ) → Consumes r r' piece → lines ≤ length piece
    → F ⊎ Takes r' r'' (λ bytes. n < lines + length bytes) → F ⊎ Takes r r'' (λ bytes. n < length bytes)
given_up n lines r r' r'' piece read few (inl failed) = inl failed
given_up n lines r r' r'' piece read few (inr next) = inr (
  piece ++ next.0,
  Consumes-trans r r' r'' piece next.0 read next.1,
  omega (arith, few, next.2, length-append piece next.0),
)

-- a fault of a capture is told as a failed read of it, or as a failed writing, only where it is one
pub read_is : (fault : CaptureFault) (n : ℕ) → fault_of fault ≡ run_fault.Read n → fault ≡ Read
read_is (Line n f) m is = cc
read_is Memory m is = cc
read_is Read m is = refl
read_is Write m is = cc
read_is (Otherwise told) m is = cc

pub of_the_capture : (fault : CaptureFault) → fault_of fault ≢ run_fault.Read 0
of_the_capture (Line n f) is = cc
of_the_capture Memory is = cc
of_the_capture Read is = cc
of_the_capture Write is = cc
of_the_capture (Otherwise told) is = cc

pub write_is : (fault : CaptureFault) → fault_of fault ≡ run_fault.Write → fault ≡ Write
write_is (Line n f) is = cc
write_is Memory is = cc
write_is Read is = cc
write_is Write is = refl
write_is (Otherwise told) is = cc

-- the config's fault is none of the writing
pub config_writes_not : (old new : Option (List ℕ)) (fault : RunFault) → ConfigEnds old new fault → fault ≢ run_fault.Write
config_writes_not old new fault ends is = absurd (subst (ConfigEnds old new) is ends)
