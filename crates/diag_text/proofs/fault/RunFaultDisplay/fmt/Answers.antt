use Rattle.diag_text.proofs.fault.RunFaultDisplay.fmt.Goals as goal

pub returns-in-Files-clause-writes : goal.returns-in-Files-clause-writes
returns-in-Files-clause-writes g c = λ plain ok. rw c.in-Files.is (c.write.ensures.writes plain ok)

pub returns-in-FileLong-clause-writes : goal.returns-in-FileLong-clause-writes
returns-in-FileLong-clause-writes g c = λ plain ok. rw c.in-FileLong.is (c.write-in-FileLong.ensures.writes plain ok)
