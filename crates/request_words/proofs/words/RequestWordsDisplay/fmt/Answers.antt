-- Each arm writes the words of the variant that it matched.
use Rattle.request_words.proofs.words.RequestWordsDisplay.fmt.Goals as goal

pub returns-in-Arm-clause-writes : goal.returns-in-Arm-clause-writes
returns-in-Arm-clause-writes g c = rw c.in-Arm.is (rw (c.from-in-Arm.ensures, c.from-in-Arm-2.ensures) at c.write-in-Arm.ensures.writes)

pub returns-in-Advance-clause-writes : goal.returns-in-Advance-clause-writes
returns-in-Advance-clause-writes g c = rw c.in-Advance.is (rw c.from-in-Advance.ensures at c.write-in-Advance.ensures.writes)

pub returns-in-ArmByPurpose-clause-writes : goal.returns-in-ArmByPurpose-clause-writes
returns-in-ArmByPurpose-clause-writes g c = rw c.in-ArmByPurpose.is (rw c.from-in-ArmByPurpose.ensures at c.write-in-ArmByPurpose.ensures.writes)
