-- What a look-up answers on a sound table: 5 past the words, and otherwise what is seen there.
use Prim.Native.Nat.{ℕ, ◌<◌, ◌≤◌}
use mathlib.Core.Path.{◌≡◌, sym}
use mathlib.Core.Bool.{true}
use borrow.Author.Tests.{lt-ltb, le-ltb}
use Rattle.memory.specs.declared.Sizes.{Sizes}
use Rattle.memory.specs.declared.Seen.{Seen}
use Rattle.memory.specs.declared.Answer.{Answer}
use Rattle.memory.specs.Pieces.{Memory}
use Rattle.memory.specs.Logical.{logical}
use Rattle.memory.specs.Sound.{sound}
use Rattle.memory.specs.Numbers.{plain, looked_as}
use Rattle.memory.specs.Requests.{looked, look}

module _ (z : Sizes) (m : Memory) (ok : sound z m ≡ true) (a : ℕ) where
  pub past_the_words : (n : Answer) → n ≡ plain 5 → z.words ≤ a → looked_as n ≡ look z m a
  unfolding look
  past_the_words n is h = rw is (sym (rw (ok, le-ltb a z.words h)))

  pub seen : (s : Seen) → s ≡ logical z m a → a < z.words → looked 0 s.value s.version ≡ look z m a
  unfolding look
  seen s e h = sym (rw (ok, lt-ltb a z.words h, ← e))
