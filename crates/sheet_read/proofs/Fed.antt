-- A text that is read byte by byte: what was read and the rest of the text are the whole text.
use Rattle.std.specs.Prelude.{Option, None, Some}
use Rattle.std.specs.Option.{is_some}
use Prim.Native.Nat.{ℕ, suc, ◌+◌, ◌<◌}
use mathlib.Core.Path.{◌≡◌, refl, sym, ap, ◌∙◌}
use mathlib.Core.List.{List, ◌∷◌}
use mathlib.Core.Bool.{true, false, false≢true}
use lib.ListN.{length, get_or, drop}
use lib.Seq.{drop-cons, drop-length}
use native.Mathlib.Numerals.{add-one}
use Rattle.session_text.specs.Text.{stored}
use Rattle.sheet_text.specs.Read.{Reader, act, act_bytes, step, step_bytes, feed, feed_bytes}
use Rattle.sheet_text.specs.declared.Turn.{Turn}
use Rattle.sheet_text.specs.Turn.{turn}
use Rattle.sheet_text.specs.declared.TextFault.{TextFault}
use Rattle.sheet_text.proofs.Feed.{refused_goes}
use Rattle.sheet_text.proofs.Lengths.{length-step}
use Rattle.sheet_read.proofs.After.{stored-after}

-- a byte of a text that was not refused
module _ (r : Reader) (b : ℕ) (good : is_some r.fault ≡ false) where
  acts : step r b ≡ act r (turn r.spot b) b
  unfolding step
  acts = rw good

  acts_bytes : step_bytes r b ≡ act_bytes r (turn r.spot b)
  unfolding step_bytes
  acts_bytes = rw good

-- what a byte and the rest put is what the byte puts, and then the rest
puts-next : (out : List ℕ) (r : Reader) (b : ℕ) (bs : List ℕ)
    → stored out r.length (feed_bytes r (b ∷ bs))
    ≡ stored (stored out r.length (step_bytes r b)) (step r b).length (feed_bytes (step r b) bs)
unfolding feed_bytes
puts-next out r b bs = stored-after out r.length (step r b).length (step_bytes r b) (feed_bytes (step r b) bs) (length-step r b)

-- the bytes that were read
pub record Fed (text out₀ : List ℕ) (r₀ : Reader) (out : List ℕ) (r : Reader) (i : ℕ) : Type 0 where
  pub reads : feed r₀ text ≡ feed r (drop i text)
  pub puts : stored out₀ r₀.length (feed_bytes r₀ text) ≡ stored out r.length (feed_bytes r (drop i text))

module _ (text out₀ : List ℕ) (r₀ : Reader) (out : List ℕ) (r : Reader) (i : ℕ) (f : Fed text out₀ r₀ out r i) where
  pub one_more : (t : Turn) (left : List ℕ) (next : Reader)
      → i < length text → is_some r.fault ≡ false → t ≡ turn r.spot (get_or text i 0) → next ≡ act r t (get_or text i 0)
      → left ≡ stored out r.length (act_bytes r t) → Fed text out₀ r₀ left next (i + 1)
  unfolding feed
  one_more t left next h good told is holds =
      let b = get_or text i 0 in
      let rest = drop-cons text i 0 h in
      let steps : next ≡ step r b = is ∙ rw told (sym (acts r b good)) in
      let puts : left ≡ stored out r.length (step_bytes r b) = holds ∙ rw (told, acts_bytes r b good) in
      rw (steps, puts) (
      record {
        reads = f.reads ∙ rw (rest, add-one);
        puts = f.puts ∙ rw (rest, add-one) (puts-next out r b (drop (suc i) text));
      }
      )

  pub all_read : i ≡ length text → (r ≡ feed r₀ text) × (out ≡ stored out₀ r₀.length (feed_bytes r₀ text))
  unfolding feed feed_bytes
  all_read last =
      let nothing = ap (λ (n : ℕ). drop n text) last ∙ drop-length text in
      (sym (f.reads ∙ rw nothing), sym (f.puts ∙ rw nothing))

  -- a text that was refused stays so
  pub stays : is_some r.fault ≡ true → (r ≡ feed r₀ text) × (out ≡ stored out₀ r₀.length (feed_bytes r₀ text))
  stays bad = go r.fault refl bad
    where
      go : (v : Option TextFault) → r.fault ≡ v → is_some v ≡ true → (r ≡ feed r₀ text) × (out ≡ stored out₀ r₀.length (feed_bytes r₀ text))
      go None e bad = absurd (false≢true bad)
      go (Some x) e bad =
          let g = refused_goes r e (drop i text) in
          (sym (f.reads ∙ g.comes), sym (f.puts ∙ ap (λ (l : List ℕ). stored out r.length l) g.gives))
