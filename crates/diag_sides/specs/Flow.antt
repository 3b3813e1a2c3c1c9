-- ISO 15765-2:2016, 9.6.5, flow control: what a FlowControl means to a sender.
use Rattle.std.specs.Prelude.{ℕ, ◌==◌, nat_le, min, ◌&&◌, if◌then◌else◌}

-- the ticks that a separation time means
abbrev pub gap_ticks : ℕ → ℕ
gap_ticks st_min = if nat_le st_min 127 then st_min else if nat_le 241 st_min && nat_le st_min 249 then 1 else 127

-- what ends the waiting of a sender
pub data Decision : Type 0 where
  Go : (block gap : ℕ) → Decision
  Wait : Decision
  GiveUp : Decision

abbrev pub flow_decision : ℕ → ℕ → ℕ → Decision
flow_decision flow_status block st_min =
    if flow_status == 0 then Go block (gap_ticks st_min) else if flow_status == 1 then Wait else GiveUp

-- how many of the frames that are left a block has; 0 stands for all
abbrev pub block_size : ℕ → ℕ → ℕ
block_size block left = if block == 0 then left else min block left
