-- The whole check from its parts: what the sizes and lengths allow, and that the words are no part of the tables' check.
use Prim.Native.Nat.{ℕ, ◌*◌, ◌≤◌}
use native.Mathlib.Omega.{arith}
use mathlib.Core.Path.{◌≡◌, refl, ◌∙◌}
use mathlib.Core.List.{List, []}
use mathlib.Core.Bool.{Bool, true, false, ◌&&◌}
use lib.ListN.{length, get_or, replicate, length-replicate, get_or-replicate}
use borrow.Author.Tests.{eqb-true}
use Rattle.memory.specs.declared.Sizes.{Sizes}
use Rattle.memory.specs.declared.Held.{Held}
use Rattle.memory.specs.declared.Held.TheVariants.{Version, Owner}
use Rattle.memory.specs.Pieces.{memory, held_of, held, place, entry, limit, most_words, most_records, most_tasks}
use Rattle.memory.specs.Lists.{on_list}
use Rattle.memory.specs.Sound.{sizes_ok, lengths_ok, task_ok, held_ok, join_ok, joins_ok, lists_ok, sound}
use Rattle.table_walk.specs.Walk.{Fit, Room, tables_ok}
use Rattle.memory.proofs.Tools.{and_0, and_1, within_of}
use Rattle.memory.proofs.Limits.{run_last}
use Rattle.table_parts.proofs.Tests.{below_same}

-- cleared tables of n cells are room for n records
pub room : (z : Sizes) (n : ℕ) → z.records ≤ n → Room z (replicate n 0) (replicate n false)
room z n h =
    record {
      met_size = omega (arith, length-replicate {A = ℕ} n 0);
      owned_size = omega (arith, length-replicate n false);
      unmarked = λ r l. get_or-replicate {A = ℕ} n r 0 0 (omega arith);
      unowned = λ r l. get_or-replicate n r false false (omega arith);
    }

module _ (z : Sizes) (w r : List ℕ) (p e : List (List ℕ)) where
  pub fit : (sizes_ok z && lengths_ok z (memory w r p e)) ≡ true → Fit z (memory [] r p e)
  unfolding sizes_ok lengths_ok
  fit h =
      let n : 1 ≤ z.records = (within_of {low = 1} {high = most_records} {n = z.records} (search (and_0, and_1))).0 in
      record {
        words = (within_of {low = 1} {high = most_words} {n = z.words} (search (and_0, and_1))).1;
        some = omega arith;
        most = (within_of {low = 1} {high = most_records} {n = z.records} (search (and_0, and_1))).1;
        tasks = (within_of {low = 1} {high = most_tasks} {n = z.tasks} (search (and_0, and_1))).1;
        held = eqb-true (length r) z.records (search (and_0, and_1));
        places = eqb-true (length p) z.tasks (search (and_0, and_1));
        entries = eqb-true (length e) (limit z * z.tasks) (search (and_0, and_1)) ∙ run_last z;
      }

  words_out : (x : ℕ) (h : Held) → held_ok z (memory [] r p e) x h ≡ held_ok z (memory w r p e) x h
  unfolding held_ok place entry
  words_out x (Version v) = refl
  words_out x (Owner t) = refl

  -- the lists go by the places alone
  pub parts : (sizes_ok z && lengths_ok z (memory w r p e) && tables_ok z (memory [] r p e) && lists_ok z (memory [] [] p [])) ≡ sound z (memory w r p e)
  unfolding sound tables_ok task_ok held lists_ok joins_ok join_ok on_list place entry
  parts = rw (below_same _ _ z.records (λ x h. words_out x (held_of (get_or r x 0)))) (go (sizes_ok z && lengths_ok z (memory w r p e)) _ _ _)
    where
      go : (a b c d : Bool) → (a && (b && c) && d) ≡ (a && b && c && d)
      go true b c d = refl
      go false b c d = refl
