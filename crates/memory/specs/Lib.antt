-- The memory as definitions, a file for each subject in the order of its specification, then what is promised of them; Claims says
-- which promises there are. No proof stands here. The proofs of this crate name a definition from here, whichever file has it.
pub mod Pieces
pub mod Lent
pub mod Lists
pub mod Logical
pub mod Requests
pub mod Step
pub mod Numbers
pub mod Sound
pub mod Calls
pub mod Machines
pub mod History
pub mod Ways
pub mod Answers
pub mod Positions
pub mod Further
pub mod Effects
pub mod Stepping
pub mod Kept
pub mod Bounds
pub mod Order
pub mod Said
pub mod Alone
pub mod Whole
pub mod Meanings
pub mod Fixed
pub mod Wrong
pub mod Thirteen
pub mod Slips
pub mod SlipsLists
pub mod SlipsRefuted
pub mod Claims
unfoldable pub use Pieces.*
unfoldable pub use Lists.*
unfoldable pub use Logical.*
unfoldable pub use Requests.*
unfoldable pub use Step.*
unfoldable pub use Numbers.*
unfoldable pub use Sound.*
unfoldable pub use Calls.*
unfoldable pub use Machines.*
unfoldable pub use History.*
unfoldable pub use Ways.*
unfoldable pub use Answers.*
unfoldable pub use Positions.*
unfoldable pub use Further.*
unfoldable pub use Effects.*
unfoldable pub use Stepping.*
unfoldable pub use Kept.*
unfoldable pub use Bounds.*
unfoldable pub use Order.*
unfoldable pub use Said.*
unfoldable pub use Alone.*
unfoldable pub use Whole.*
unfoldable pub use Meanings.*
unfoldable pub use Fixed.*
unfoldable pub use Claims.*
