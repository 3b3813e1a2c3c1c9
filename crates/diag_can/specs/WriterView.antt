-- What a writer of reply lines writes in each line.
use Rattle.std.specs.Prelude.{ℕ, List, Option}

-- the tester's name, and the flags of its frames, where they are of CAN FD
pub record WriterView : Type 0 where
  pub name : List ℕ
  pub flags : Option ℕ
