-- The places where a bare field goes on, or may begin (§18.3): the next byte is read there as a byte of such a field.
use Rattle.std.specs.Prelude.{Bool, true, false}
use Rattle.sheet_text.specs.declared.Spot.{Spot}
use Rattle.sheet_text.specs.declared.Spot.TheVariants.{Fresh, Bare, Quoted, Closed, Return}

abbrev pub is_open : Spot → Bool
is_open Fresh = true
is_open Bare = true
is_open Quoted = false
is_open Closed = false
is_open Return = false
