-- Replies that wait, and the room for more.
use Rattle.std.specs.Prelude.{◌^◌, ℕ, List}
use Rattle.diag_pdu.specs.declared.length.DataLength.{DataLength}

-- the most replies that wait
abbrev pub most_waiting : ℕ
most_waiting = 2 ^ 40

pub record QueueState : Type 0 where
  pub replies : List (List ℕ)
  -- how long their frames are
  pub tx_dl : DataLength
  -- the replies for which there is room: in memory, and up to the most that a queue holds
  pub room : ℕ
