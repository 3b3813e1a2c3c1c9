-- The one journal of a stretch, and what a call more makes of a history.
use Rattle.std.proofs.Common.{◌≡◌, ℕ, List, [], ◌∷◌, ◌++◌, length, drop, Option, Some, None, refl, ap, sym, ◌∙◌}
use Rattle.std.proofs.lemmas.List.{length-map, map-append}
use Rattle.std.proofs.Math.Seq.{drop-append_seam}
use Rattle.diag_can.specs.Log.{silence}
use Rattle.diag_can.specs.Event.{Event}
use Rattle.diag_can.specs.declared.log.Timing.TheVariants.{Stamps}
use Rattle.diag_pdu.specs.declared.step.Step.{Step}
use Rattle.diag_setup.specs.declared.raw.RawSetup.{RawSetup}
use Rattle.diag_setup.specs.Setup.{link_of}
use Rattle.diag_ecu.specs.State.{State}
use Rattle.diag_desk.specs.declared.entry.Entry.{Entry}
use Rattle.diag_desk.specs.Entries.{asked_by}
use Rattle.diag_desk.specs.Timed.{Timed, entries_of}
use Rattle.diag_world.specs.Server.{ServerState, ServesFrom}
use Rattle.diag_world.specs.Weaving.{steps_of}
use Rattle.diag_bus.specs.Text.{answered}
use Rattle.diag_bus.proofs.Lines.{one_journal}
use Rattle.uds_unit.specs.History.{Call, History, history_after, next_of}
use Rattle.uds_unit.specs.Moments.{reference_of, span_at}
use Rattle.uds_unit.specs.declared.clock.Clock.{Clock}

-- what the journal asks is what the events give behind the entries before
asked_behind : (T : List Timed) (K : List Entry) (steps : List (ℕ × Step)) → asked_by (entries_of T ++ K) ≡ steps → drop (length T) steps ≡ asked_by K
asked_behind T K steps is =
    let step : Entry → ℕ × Step = λ k. (k.who, k.step) in
    let many : length (asked_by (entries_of T)) ≡ length T = length-map (entries_of T) step ∙ length-map T (λ (x : Timed). x.entry) in
    ap (drop (length T)) (sym is ∙ map-append step (entries_of T) K)
    ∙ (ap (λ n. drop n (asked_by (entries_of T) ++ asked_by K)) (sym many) ∙ drop-append_seam (asked_by (entries_of T)) (asked_by K))

-- the journal of a stretch is the one that is computed
pub run_from : (opened : State) (T : List Timed) (setup : RawSetup) (server : ServerState) (M : List (ℕ × Event)) (K : List Entry)
    → ServesFrom opened T setup server M K → K ≡ answered opened (drop (length T) (steps_of (link_of setup) M))
run_from opened T setup server M K h =
    one_journal opened K h.legal ∙ ap (answered opened) (sym (asked_behind T K (steps_of (link_of setup) M) h.run))

-- a call more comes behind those before
pub history_more : (setup : RawSetup) (h : History) (calls : List Call) (call : Call)
    → history_after setup h (calls ++ call ∷ []) ≡ next_of setup (history_after setup h calls) call
history_more setup h [] call = refl
history_more setup h (first ∷ calls) call = history_more setup (next_of setup h first) calls call

-- the time that passes is that of a stamped line
pub span_is : (clock : Option Clock) (moment : ℕ) → silence Stamps (reference_of clock) (Some moment) ≡ span_at clock moment
span_is None moment = refl
span_is (Some clock) moment = refl
