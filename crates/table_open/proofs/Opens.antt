-- What an opening answers, number by number.
use Prim.Native.Nat.{ℕ, ◌*◌}
use mathlib.Core.Path.{◌≡◌}
use mathlib.Core.Bool.{true, false}
use lib.ListN.{length, replicate}
use borrow.Author.Tests.{eqb-true}
use Rattle.memory.specs.declared.Sizes.{Sizes}
use Rattle.memory.specs.Pieces.{Memory, memory, ended, row_of, row_of_entry, limit, top_version}
use Rattle.memory.specs.Logical.{blank}
use Rattle.memory.specs.Sound.{within, sizes_ok, lengths_ok}
use Rattle.memory.specs.Numbers.{reply, refused}
use Rattle.memory.specs.Requests.{opened, open_board}
use Rattle.memory.proofs.Tools.{and_0, and_1}

module _ (z : Sizes) (v : ℕ) (m : Memory) where
  pub no_size : sizes_ok z ≡ false → open_board z v m ≡ refused 2 m
  unfolding open_board
  no_size h = rw h

  module _ (sized : sizes_ok z ≡ true) where
    pub no_version : within 1 top_version v ≡ false → open_board z v m ≡ refused 2 m
    unfolding open_board
    no_version h = rw (sized, h)

    module _ (fits : within 1 top_version v ≡ true) where
      pub no_length : lengths_ok z m ≡ false → open_board z v m ≡ refused 1 m
      unfolding open_board
      no_length h = rw (sized, fits, h)

      -- every table keeps its length, and is filled
      pub opens : lengths_ok z m ≡ true → open_board z v m
          ≡ reply 0 0 (memory (replicate (length m.words) 0) (replicate (length m.records) v) (replicate (length m.places) (row_of ended))
          (replicate (length m.entries) (row_of_entry blank)))
      unfolding open_board lengths_ok opened
      opens h =
          let w : length m.words ≡ z.words = eqb-true _ _ (search (and_0, and_1)) in
          let r : length m.records ≡ z.records = eqb-true _ _ (search (and_0, and_1)) in
          let p : length m.places ≡ z.tasks = eqb-true _ _ (search (and_0, and_1)) in
          let e : length m.entries ≡ limit z * z.tasks = eqb-true _ _ (search (and_0, and_1)) in
          rw (sized, fits, h, w, r, p, e)
