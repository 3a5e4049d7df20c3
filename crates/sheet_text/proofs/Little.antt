-- Bytes, the number that they write with the lowest first, and that number in bytes again (§11.2).
use Prim.Native.Nat.{ℕ, zero, suc, ◌+◌, ◌*◌, ◌/◌, ◌%◌, ◌^◌, ◌<◌, ◌≤◌}
use mathlib.Core.Path.{◌≡◌, refl, ap}
use mathlib.Core.List.Memᴰ
use mathlib.Core.List.{List, [], ◌∷◌}
use lib.ListN.{length, take, drop}
use native.Mathlib.Omega.{arith, pow_step}
use Rattle.memory.proofs.Tools.{in_take, in_drop}
use Rattle.session_fields.specs.Fields.{little_endian}
use Rattle.sheet_text.specs.Line.{little}
use Rattle.sheet_text.specs.Claims.{Bytes}

pub length-little : (w n : ℕ) → length (little w n) ≡ w
unfolding little
length-little zero n = refl
length-little (suc w) n = ap suc (length-little w (n / 256))

pub bytes_taken : (n : ℕ) {l : List ℕ} → Bytes l → Bytes (take n l)
bytes_taken n {l} h b m = h b (in_take n l m)

pub bytes_dropped : (n : ℕ) {l : List ℕ} → Bytes l → Bytes (drop n l)
bytes_dropped n {l} h b m = h b (in_drop n l m)

first : {b : ℕ} {l : List ℕ} → Bytes (b ∷ l) → b < 256
first {b} h = h b (Memᴰ.head refl)

others : {b : ℕ} {l : List ℕ} → Bytes (b ∷ l) → Bytes l
others h c m = h c (Memᴰ.tail m)

pub little_back : (l : List ℕ) → Bytes l → little (length l) (little_endian l) ≡ l
unfolding little little_endian
little_back [] h = refl
little_back (b ∷ l) h =
    let small : b < 256 = first h in
    let low : (b + 256 * little_endian l) % 256 ≡ b = omega arith in
    let high : (b + 256 * little_endian l) / 256 ≡ little_endian l = omega arith in
    rw (low, high, little_back l (others h))

pub little-fits : (l : List ℕ) → Bytes l → little_endian l < 256 ^ length l
unfolding little_endian
little-fits [] h = omega arith
little-fits (b ∷ l) h = omega (arith, first h, little-fits l (others h), pow_step 256 (length l))

-- three digits are enough for each byte
pub three_digits : (w : ℕ) → 256 ^ w ≤ 10 ^ (3 * w)
three_digits zero = omega arith
three_digits (suc w) =
    let more : 3 * suc w ≡ suc (suc (suc (3 * w))) = omega arith in
    rw more (omega (arith, three_digits w, pow_step 256 w, pow_step 10 (3 * w), pow_step 10 (suc (3 * w)), pow_step 10 (suc (suc (3 * w)))))
