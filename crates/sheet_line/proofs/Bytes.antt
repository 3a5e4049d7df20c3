-- A number and its lowest bytes: what they are, and how many numbers they have room for.
use Prim.Native.Nat.{ℕ, zero, suc, ◌*◌, ◌%◌, ◌^◌, ◌≤◌}
use mathlib.Core.Path.{◌≡◌, refl}
use mathlib.Core.List.{List}
use native.Mathlib.Nat.{div-div-eq-div-mul}
use native.Mathlib.Omega.{arith}
use lib.ListN.{length, take, length-take}
use lib.Seq.{take-length}
use Rattle.std.specs.Int.{to_le_bytes, w32}
use Rattle.session_text.specs.declared.Out.{Out}
use Rattle.session_text.specs.Out.{Puts}
use Rattle.session_text.proofs.Laws.{wider}
use Rattle.sheet_text.specs.Line.{little}

-- the lowest bytes of a number, as many as are asked
pub lowest : (w n : ℕ) → w ≤ 4 → take w (to_le_bytes w32 n) ≡ little w n
unfolding little
lowest zero n h = refl
lowest (suc zero) n h = refl
lowest (suc (suc zero)) n h = refl
lowest (suc (suc (suc zero))) n h = rw (div-div-eq-div-mul n 256 256)
lowest (suc (suc (suc (suc zero)))) n h = rw (div-div-eq-div-mul n 256 256, div-div-eq-div-mul n 65536 256)
lowest (suc (suc (suc (suc (suc w))))) n h = absurd (omega arith)

-- they were put, all of them
pub put_lowest : (w n i : ℕ) (bytes : List ℕ) {a b : Out} → bytes ≡ to_le_bytes w32 n → w ≤ 4
    → i ≡ length (take w bytes) → Puts i a b (take i (take w bytes)) → Puts 4 a b (little w n)
put_lowest w n i bytes {a = a} {b = b} is four whole p =
    let few : i ≤ 4 = omega (arith, length-take w bytes) in
    let all : take i (take w bytes) ≡ little w n = rw (whole, take-length (take w bytes), is) (lowest w n four) in
    wider few (rw all at p)

-- one bit moved up by so many bytes
pub moved : (w : ℕ) → w ≤ 4 → 1 * 2 ^ (8 * w) % 18446744073709551616 ≡ 256 ^ w
moved zero h = refl
moved (suc zero) h = refl
moved (suc (suc zero)) h = refl
moved (suc (suc (suc zero))) h = refl
moved (suc (suc (suc (suc zero)))) h = refl
moved (suc (suc (suc (suc (suc w))))) h = absurd (omega arith)
