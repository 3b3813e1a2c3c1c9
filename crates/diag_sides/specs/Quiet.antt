-- For how many ticks nothing falls due and nothing ends.
use Rattle.std.specs.Prelude.{ℕ, ◌+◌, ◌-◌, ◌^◌, Option, Some, None}
use Rattle.diag_sides.specs.declared.sending.Sending.{Sending}
use Rattle.diag_sides.specs.declared.sending.Phase.{Phase}
use Rattle.diag_sides.specs.declared.sending.Phase.TheVariants.{AwaitsFlow, InBlock}
use Rattle.diag_sides.specs.Receiver.{Receiving}
use Rattle.diag_sides.specs.Sender.{in_phase}

-- for ever
abbrev pub always : ℕ
always = 2 ^ 64 - 1

-- until the reception ends
abbrev pub reception_quiet : ℕ → Option Receiving → ℕ
reception_quiet n_cr None = always
reception_quiet n_cr (Some p) = n_cr - p.silence

abbrev pub phase_quiet : Phase → ℕ
phase_quiet (AwaitsFlow ticks) = ticks
phase_quiet (InBlock rest gap ticks) = ticks

-- until the current message is given up, or its next frame goes
abbrev pub sender_quiet : Option Sending → ℕ
sender_quiet None = always
sender_quiet (Some c) = phase_quiet c.phase

-- a reception so many ticks later, in which it didn't end
abbrev pub reception_later : ℕ → Option Receiving → Option Receiving
reception_later n None = None
reception_later n (Some p) =
    Some (record { len = p.len; rx_dl = p.rx_dl; count = p.count; bytes = p.bytes; silence = p.silence + n })

abbrev pub phase_later : ℕ → Phase → Phase
phase_later n (AwaitsFlow ticks) = AwaitsFlow (ticks - n)
phase_later n (InBlock rest gap ticks) = InBlock rest gap (ticks - n)

-- the current message so many ticks later, in which nothing happened to it
abbrev pub current_later : ℕ → Option Sending → Option Sending
current_later n None = None
current_later n (Some c) = Some (in_phase c (phase_later n c.phase))
