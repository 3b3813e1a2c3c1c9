-- The entries of one tester with the delays of their answers, the tester first.
use Rattle.std.specs.Prelude.{ℕ, List}
use Rattle.diag_ecu.specs.State.{State}
use Rattle.diag_desk.specs.Timed.{Timed}
use Rattle.diag_desk.specs.declared.entry.Entry.{Entry}
use Rattle.diag_gate.specs.Views.{own_in}

abbrev pub owned : State → ℕ → List Entry → List Timed
owned opening t journal = own_in opening journal t
