-- A little-endian number byte by byte.
use Prim.Native.Nat.{ℕ, zero, suc, ◌+◌, ◌-◌, ◌*◌, ◌^◌, ◌≤◌, ◌<◌}
use mathlib.Core.Path.{◌≡◌, refl, ap, ◌∙◌}
use mathlib.Core.List.{List, [], ◌∷◌}
use lib.ListN.{length, get_or, drop_of_length-le}
use native.Mathlib.Nat.{lt_of_lt_of_le, pow-le-pow_right}
use native.Mathlib.Omega.{arith, pow_step}
use lib.Seq.{take-nil, drop-nil}
use Rattle.session_fields.specs.Fields.{little_endian, number_at}

-- of no bytes there is nothing to read
nothing : (width at : ℕ) → number_at width at [] ≡ 0
unfolding number_at little_endian
nothing width at = rw (drop-nil at, take-nil width)

-- the byte that stands at a place, and 256 times the number of the bytes after it
pub one_byte_more : (width at : ℕ) (bytes : List ℕ) → number_at (suc width) at bytes ≡ get_or bytes at 0 + 256 * number_at width (suc at) bytes
unfolding number_at little_endian
one_byte_more width at [] = rw (nothing (suc width) at, nothing width (suc at))
one_byte_more width zero (b ∷ bytes) = refl
one_byte_more width (suc at) (b ∷ bytes) = one_byte_more width at bytes

-- more bytes have more room
wider : (i j : ℕ) → i ≤ j → 256 ^ i ≤ 256 ^ j
wider i j h = pow-le-pow_right {n = 256} (omega arith) h

-- past the end of the bytes
pub past_end : (width at : ℕ) (bytes : List ℕ) → length bytes ≤ at → (0 ≡ number_at width at bytes) × (0 < 256 ^ width)
unfolding number_at little_endian
past_end width at bytes h = (rw (drop_of_length-le bytes h, take-nil width), wider 0 width (omega arith))

-- A number that is read from its highest byte down: with `left` bytes still to read, those above them.
pub record Above (width at : ℕ) (bytes : List ℕ) (left sum : ℕ) : Type 0 where
  pub seen : ℕ
  pub rest : left + seen ≡ width
  pub is : sum ≡ number_at seen (at + left) bytes
  pub small : sum < 256 ^ seen

module _ (width at : ℕ) (bytes : List ℕ) where
  pub none_read : Above width at bytes width 0
  unfolding number_at little_endian
  none_read = record { seen = 0; rest = omega arith; is = refl; small = omega arith }

  pub all_read : (left sum : ℕ) → Above width at bytes left sum → left ≤ 0 → (sum ≡ number_at width at bytes) × (sum < 256 ^ width)
  all_read left sum h none =
      let e : h.seen ≡ width = omega (arith, h.rest) in
      let same : at + left ≡ at = omega arith in
      (h.is ∙ rw (e, same), rw (← e) h.small)

  module _ (left b sum : ℕ) (h : Above width at bytes left sum) (some : 0 < left) (byte : b < 256) where
    fits : b + 256 * sum < 256 ^ suc h.seen
    fits = omega (arith, h.small, pow_step 256 h.seen)

    -- four bytes have room for it
    pub has_room : width ≤ 4 → b + 256 * sum < 4294967296
    has_room four = lt_of_lt_of_le fits (wider (suc h.seen) 4 (omega (arith, h.rest)))

    pub one_read : b ≡ get_or bytes (at + (left - 1)) 0 → Above width at bytes (left - 1) (b + 256 * sum)
    one_read there =
        record {
          seen = suc h.seen;
          rest = omega (arith, h.rest);
          is = omega (arith, h.is, there, one_byte_more h.seen (at + (left - 1)) bytes, ap (λ (i : ℕ). number_at h.seen i bytes) next);
          small = fits;
        }
      where
        next : suc (at + (left - 1)) ≡ at + left
        next = omega arith
