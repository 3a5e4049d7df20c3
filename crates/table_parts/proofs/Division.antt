-- A rest by a product with the inverse: exact for every address and every number of records that a board may have.
use Rattle.std.proofs.Common.{◌≡◌, ℕ, ◌+◌, ◌*◌, ◌/◌, ◌%◌, ◌<◌, ◌≤◌, sym, ap, ◌∙◌, mul-le-mul_right, mod-lt, mul_assoc, mul_comm, add-mul, mul-le-mul, mul-le-mul_left, div-add-mod', mul-add, arith}
use Rattle.memory.specs.Pieces.{most_words, most_records}
use Rattle.table_parts.specs.Parts.{inverse}

-- a has q and r for quotient and rest by n, and 2 to the 32nd has Q and R
exact : (n a q r Q R : ℕ) → Q * n + R ≡ 4294967296 → R < n → q * n + r ≡ a → r < n → n ≤ most_records → a < most_words → a * (Q + 1) / 4294967296 ≡ q
exact n a q r Q R whole hR split hr most few =
    let e1 : a * (Q + 1) ≡ (q * n + r) * (Q + 1) = ap (λ (x : ℕ). x * (Q + 1)) (sym split) in
    let e2 = add-mul (q * n) r (Q + 1) in
    let e3 = mul-add (q * n) Q 1 in
    let e4 : q * n * Q ≡ q * (Q * n) = mul_assoc q n Q ∙ ap (λ (x : ℕ). q * x) (mul_comm n Q) in
    let e5 = mul-add r Q 1 in
    let u1 : q * (Q * n) + q * R ≡ q * 4294967296 = sym (mul-add q (Q * n) R) ∙ ap (λ (x : ℕ). q * x) whole in
    let u2 : q * R ≤ q * n = mul-le-mul_left q (omega arith) in
    let v1 : (r + 1) * Q ≤ n * Q = mul-le-mul_right Q (omega arith) in
    let v2 = add-mul r 1 Q in
    let v3 = mul_comm n Q in
    let w : Q * n ≤ Q * most_records = mul-le-mul_left Q most in
    omega arith

pub inverse_most : {n : ℕ} → 0 < n → inverse n ≤ 4294967297
inverse_most {n} some =
    let h : 4294967296 / n * 1 ≤ 4294967296 / n * n = mul-le-mul_left (4294967296 / n) (omega arith) in
    omega (arith, h, div-add-mod' 4294967296 n)

module _ {n a by : ℕ} (some : 0 < n) (most : n ≤ most_records) (few : a < most_words) (e : by ≡ inverse n) where
  pub product_most : a * by ≤ most_words * 4294967297
  product_most = rw e (mul-le-mul {n₂ = most_words} (omega arith) (inverse_most some))

  -- what the quotient leaves is the rest
  pub rest : a * by / 4294967296 * n + a % n ≡ a
  rest =
      ap (λ (x : ℕ). a * x / 4294967296 * n + a % n) e
      ∙ ap (λ (q : ℕ). q * n + a % n)
      (exact n a (a / n) (a % n) (4294967296 / n) (4294967296 % n) (div-add-mod' 4294967296 n) (mod-lt 4294967296 some) (div-add-mod' a n) (mod-lt a some) most few)
      ∙ div-add-mod' a n
