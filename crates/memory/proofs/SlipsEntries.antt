-- Slips that show only where a task has many entries: as many as it may have, and one fewer, all on one record.
use Prim.Native.Nat.{ℕ, zero, suc, ◌+◌, ◌-◌}
use mathlib.Core.Path.{◌≡◌, refl}
use mathlib.Core.List.{List, [], ◌∷◌}
use mathlib.Core.Bool.{true}
use lib.ListN.{replicate}
use Rattle.memory.specs.{Sizes, Memory, memory, most_entries, limit, sound, CallAnswers}
use Rattle.memory.specs.Wrong.{reading, writing}
use Rattle.memory.specs.Slips.{six_for_known, nine_before_six, sixty_three, six_before_five}
use Rattle.memory.proofs.Machine.{requests, machine}
use Rattle.memory.proofs.Breaks.{other_read, other_write}

-- The first entries of one task on one record, all of old version 1, where the record holds some version.
wide : Sizes
wide = record { words = most_entries + 1; records = 1; tasks = 1 }

unfoldable pub rows : ℕ → ℕ → List (List ℕ)
rows zero i = []
rows (suc k) i = (i ∷ 0 ∷ 0 ∷ 1 ∷ 1 ∷ []) ∷ rows k (suc i)

many : ℕ → ℕ → Memory
many n v = memory (replicate wide.words 0) (v ∷ []) ((n ∷ 1 ∷ 0 ∷ 0 ∷ []) ∷ []) (rows (limit wide) 0)

-- Soundness of so many entries is slow to compute: here it is done once, and below `sound` stays shut.
full : sound wide (many (limit wide) 2) ≡ true
unfolding machine wide rows many
full = refl

nearly : sound wide (many (limit wide - 1) 1) ≡ true
unfolding machine wide rows many
nearly = refl

pub six_for_known_read : CallAnswers (reading six_for_known) → ⊥
unfolding requests wide rows many
six_for_known_read = other_read (reading six_for_known) wide (many (limit wide) 2) 0 0 (rw full)

pub six_for_known_write : CallAnswers (writing (λ a v. six_for_known a)) → ⊥
unfolding requests wide rows many
six_for_known_write = other_write (writing (λ a v. six_for_known a)) wide (many (limit wide) 2) 0 0 7 (rw full)

pub nine_before_six_read : CallAnswers (reading nine_before_six) → ⊥
unfolding requests wide rows many
nine_before_six_read = other_read (reading nine_before_six) wide (many (limit wide) 2) 0 (limit wide) (rw full)

pub nine_before_six_write : CallAnswers (writing (λ a v. nine_before_six a)) → ⊥
unfolding requests wide rows many
nine_before_six_write = other_write (writing (λ a v. nine_before_six a)) wide (many (limit wide) 2) 0 (limit wide) 7 (rw full)

pub sixty_three_read : CallAnswers (reading sixty_three) → ⊥
unfolding requests wide rows many
sixty_three_read = other_read (reading sixty_three) wide (many (limit wide - 1) 1) 0 (limit wide) (rw nearly)

pub sixty_three_write : CallAnswers (writing (λ a v. sixty_three a)) → ⊥
unfolding requests wide rows many
sixty_three_write = other_write (writing (λ a v. sixty_three a)) wide (many (limit wide - 1) 1) 0 (limit wide) 7 (rw nearly)

pub six_before_five_read : CallAnswers (reading six_before_five) → ⊥
unfolding requests wide rows many
six_before_five_read = other_read (reading six_before_five) wide (many (limit wide) 2) 0 wide.words (rw full)

pub six_before_five_write : CallAnswers (writing (λ a v. six_before_five a)) → ⊥
unfolding requests wide rows many
six_before_five_write = other_write (writing (λ a v. six_before_five a)) wide (many (limit wide) 2) 0 wide.words 7 (rw full)
