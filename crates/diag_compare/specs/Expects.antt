-- What the server makes of the requests of a journal.
use Rattle.std.specs.Prelude.{ℕ, false, List, Option, None}
use Rattle.diag_pdu.specs.declared.step.Step.{Step}
use Rattle.diag_pdu.specs.declared.step.Step.TheVariants as step
use Rattle.diag_setup.specs.declared.raw.RawSetup.{RawSetup}
use Rattle.diag_ecu.specs.State.{State}
use Rattle.diag_desk.specs.declared.entry.Entry.{Entry}
use Rattle.diag_exchange.specs.declared.happening.Expected.{Expected}
use Rattle.diag_expect.specs.Expecting.{entered_of, expected_of}

abbrev pub step_expects : RawSetup → State → ℕ → Step → Option (List ℕ) → Expected
step_expects setup s who (step.Request request) reply = expected_of setup (entered_of s who request reply)
step_expects setup s who (step.Ticks n) reply = record { reply = None; varies = None; own = false; ignored = false }

-- of an entry, by the state before it
abbrev pub expects : RawSetup → State → Entry → Expected
expects setup s e = step_expects setup s e.who e.step e.reply
