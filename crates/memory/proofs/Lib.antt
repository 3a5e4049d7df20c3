-- Laws that the code's proofs share, then the proofs of what specs/Claims.antt lists, by subject. Promises has every claim.

-- tests, codecs, searches, stores, and what a sound table gives
pub mod Machine
pub mod Tools
pub mod Sets
pub mod Bits
pub mod Gathered
pub mod Leads
pub mod Codes
pub mod Cases
pub mod Find
pub mod Limits
pub mod Stores
pub mod Clashes
pub mod Facts
pub mod Fresh
pub mod Struck
pub mod Tables
-- the step, taken apart once; soundness lasts; what a call leaves alone
pub mod Went
pub mod ListsLast
pub mod Lasts
pub mod Woken
pub mod SoundSteps
pub mod SoundReads
pub mod SoundLasts
pub mod Narrow
-- the third demand: the invariant, the calls that keep it, and what it says of a scene
pub mod Invariant
pub mod Quiet
pub mod Logs
pub mod Mentions
pub mod Open
pub mod Steps
pub mod Decides
pub mod Wake
pub mod Look
pub mod View
pub mod Good
pub mod GoodReads
pub mod GoodClashes
pub mod GoodSteps
pub mod Theorem
pub mod Serial
pub mod Listed
pub mod Spoken
-- how long a commit takes
pub mod Turns
pub mod Ends
-- what is answered, what is left, and what both lean on
pub mod StepAnswers
pub mod Answers
pub mod OpenAnswers
pub mod Effects
pub mod Rows
pub mod Stepping
pub mod ListsMean
pub mod Meanings
-- it comes through: alone, and as a whole turn
pub mod Runs
pub mod OneStep
pub mod Takes
pub mod Alone
pub mod LetGo
pub mod Begun
pub mod Falls
pub mod Tries
pub mod Rising
pub mod WholeTurns
pub mod SameBoard
pub mod SameAnswers
pub mod SameBody
-- the claims fix the machine, and each is needed
pub mod AlikeReplies
pub mod Alike
pub mod AlikeSteps
pub mod Fixed
pub mod Breaks
pub mod NeededBroken
pub mod NeededTools
pub mod NeededRequests
pub mod NeededSteps
pub mod Needed
-- slips are refuted
pub mod SlipsEntries
pub mod SlipsWhole
pub mod SlipsLists
pub mod Slips
-- boards that compute
pub mod PositionsHold
pub mod Example
pub mod WholeExample
pub mod Promises
