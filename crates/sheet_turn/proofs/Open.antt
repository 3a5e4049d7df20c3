-- What a byte is where a bare field is open.
use Prim.Native.Nat.{ℕ}
use mathlib.Core.Path.{◌≡◌, refl, sym}
use mathlib.Core.Bool.{Bool, true, false, ◌||◌, false≢true}
use lib.Dec.{eqb}
use Rattle.sheet_text.specs.declared.Spot.{Spot}
use Rattle.sheet_text.specs.declared.Spot.TheVariants.{Fresh, Bare, Quoted, Closed, Return}
use Rattle.sheet_text.specs.declared.Turn.TheVariants.{Content, FieldEnds}
use Rattle.sheet_text.specs.Turn.{special, quote, comma, return, newline, leave, bare, turn}
use Rattle.sheet_turn.specs.Contract.{is_open}

-- one of the four leaves a bare field
pub leaves : (b : ℕ) → special b ≡ true → bare b ≡ leave b
unfolding bare
leaves b e = rw e

-- a test that holds of neither part
neither : (a b : Bool) → (a || b) ≡ false → a ≡ false
neither true b e = absurd (false≢true (sym e))
neither false b e = refl

-- a comma ends the field, and a byte that is none of the four is its content
pub comma_ends : (s : Spot) → is_open s ≡ true → turn s comma ≡ FieldEnds
unfolding bare leave
comma_ends Fresh e = refl
comma_ends Bare e = refl
comma_ends Quoted e = absurd (false≢true e)
comma_ends Closed e = absurd (false≢true e)
comma_ends Return e = absurd (false≢true e)

pub plain_goes_on : (s : Spot) (b : ℕ) → is_open s ≡ true → special b ≡ false → turn s b ≡ Content Bare
unfolding bare
plain_goes_on Fresh b e none = rw (none, neither (eqb b quote) (eqb b comma || (eqb b return || eqb b newline)) none)
plain_goes_on Bare b e none = rw none
plain_goes_on Quoted b e none = absurd (false≢true e)
plain_goes_on Closed b e none = absurd (false≢true e)
plain_goes_on Return b e none = absurd (false≢true e)
