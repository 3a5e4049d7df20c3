-- Text read after text: where the reader comes to, and the bytes of the session that it gives on the way.
use Rattle.std.specs.Prelude.{Some}
use Prim.Native.Nat.{ℕ}
use mathlib.Core.Path.{◌≡◌, refl, sym, ap, ◌∙◌}
use mathlib.Core.List.{List, [], ◌∷◌, ◌++◌, append_assoc}
use Rattle.sheet_text.specs.Answer.{TextFault}
use Rattle.sheet_text.specs.Read.{Reader, step, step_bytes, feed, feed_bytes, finish, finish_bytes}

pub feed_append : (r : Reader) (s t : List ℕ) → feed r (s ++ t) ≡ feed (feed r s) t
unfolding feed
feed_append r [] t = refl
feed_append r (b ∷ s) t = feed_append (step r b) s t

pub feed_bytes_append : (r : Reader) (s t : List ℕ) → feed_bytes r (s ++ t) ≡ feed_bytes r s ++ feed_bytes (feed r s) t
unfolding feed feed_bytes
feed_bytes_append r [] t = refl
feed_bytes_append r (b ∷ s) t = rw (feed_bytes_append (step r b) s t) (sym (append_assoc (step_bytes r b) _ _))

-- a text takes one reader to another and gives these bytes
pub record Goes (r : Reader) (text : List ℕ) (r' : Reader) (bytes : List ℕ) : Type 0 where
  pub comes : feed r text ≡ r'
  pub gives : feed_bytes r text ≡ bytes

pub goes_nowhere : (r : Reader) → Goes r [] r []
unfolding feed feed_bytes
goes_nowhere r = record { comes = refl; gives = refl }

-- one text after another; a byte and then a text; a byte alone
pub goes_on : {r r' r'' : Reader} {s t b b' : List ℕ} → Goes r s r' b → Goes r' t r'' b' → Goes r (s ++ t) r'' (b ++ b')
goes_on {r} {s = s} {t = t} g h =
    record {
      comes = feed_append r s t ∙ rw g.comes h.comes;
      gives = feed_bytes_append r s t ∙ rw (g.comes, g.gives, h.gives);
    }

pub goes_step : {r r'' : Reader} {x : ℕ} {t b' : List ℕ} → Goes (step r x) t r'' b' → Goes r (x ∷ t) r'' (step_bytes r x ++ b')
unfolding feed feed_bytes
goes_step {r} {x = x} h = record { comes = h.comes; gives = ap (λ l. step_bytes r x ++ l) h.gives }

-- a text and its end take one reader to another and give these bytes
pub record Ends (r : Reader) (text : List ℕ) (r' : Reader) (bytes : List ℕ) : Type 0 where
  pub comes : finish (feed r text) ≡ r'
  pub gives : feed_bytes r text ++ finish_bytes (feed r text) ≡ bytes

pub ends_so : {r r' r'' : Reader} {t b b' : List ℕ} → Goes r t r' b → finish r' ≡ r'' → finish_bytes r' ≡ b' → Ends r t r'' (b ++ b')
ends_so g e f = record { comes = rw g.comes e; gives = rw (g.comes, g.gives, f) }

pub ends-after : {r r' r'' : Reader} {s t b b' : List ℕ} → Goes r s r' b → Ends r' t r'' b' → Ends r (s ++ t) r'' (b ++ b')
ends-after {r} {r'} {s = s} {t = t} {b = b} g h =
    record {
      comes = rw (feed_append r s t, g.comes) h.comes;
      gives = rw (feed_append r s t, feed_bytes_append r s t, g.comes, g.gives) (append_assoc b _ _ ∙ ap (λ l. b ++ l) h.gives);
    }

-- A text that was refused stays so, and gives nothing more.
module _ (r : Reader) {f : TextFault} (refused : r.fault ≡ Some f) where
  stays : (b : ℕ) → step r b ≡ r
  unfolding step
  stays b = rw refused

  gives_none : (b : ℕ) → step_bytes r b ≡ []
  unfolding step_bytes
  gives_none b = rw refused

  pub refused_goes : (text : List ℕ) → Goes r text r []
  unfolding feed feed_bytes
  refused_goes [] = goes_nowhere r
  refused_goes (b ∷ bs) =
      let h = refused_goes bs in
      record { comes = rw (stays b) h.comes; gives = rw (gives_none b, stays b) h.gives }

  pub refused-finish : finish r ≡ r
  unfolding finish
  refused-finish = rw refused

  pub refused-finish_bytes : finish_bytes r ≡ []
  unfolding finish_bytes
  refused-finish_bytes = rw refused

  pub refused_stays : (text : List ℕ) → finish (feed r text) ≡ r
  refused_stays text = rw (refused_goes text).comes refused-finish
