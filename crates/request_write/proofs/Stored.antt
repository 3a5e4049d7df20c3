-- What Write answers by the entry that it found or made.
use Rattle.std.specs.Prelude.{Ok}
use Prim.Native.Nat.{ℕ, suc, ◌+◌, ◌≤◌}
use mathlib.Core.Path.{◌≡◌, sym, ap, ◌∙◌}
use mathlib.Core.Bool.{true, false}
use mathlib.Core.List.{List}
use native.Mathlib.Numerals.{add-one}
use native.Mathlib.Omega.{arith}
use lib.Dec.{eqb}
use Rattle.memory.specs.declared.Sizes.{Sizes}
use Rattle.memory.specs.declared.Place.{Place}
use Rattle.memory.specs.declared.Entry.{Entry}
use Rattle.memory.specs.Pieces.{Memory, place, top_version}
use Rattle.memory.specs.Numbers.{reply, refused}
use Rattle.memory.specs.Requests.{write, store, added, written, rewrite}
use Rattle.task_descriptor.specs.Contract.{Within, grown}
use Rattle.request_access.specs.declared.Access.TheVariants.{Known, New}
use Rattle.request_access.specs.Contract.{Accesses}
use Rattle.request_access.proofs.Added.{adds}

-- what the code needs of a task's entries, of fewer of them
pub fewer : {z : Sizes} {table : List (List ℕ)} {t n k : ℕ} → Within z table t n → k ≤ n → Within z table t k
fewer w h = record { task = w.task; some = w.some; few = w.few; fits = omega (arith, w.fits); low = λ i lt. w.low i (omega arith) }

-- Write on an entry, by its old version
module _ (z : Sizes) (m with_it : Memory) (t a v n : ℕ) (e : Entry) where
  pub store_8 : eqb e.old.version top_version ≡ true → store z m with_it t a v n e ≡ refused 8 m
  unfolding store
  store_8 k = rw k

  pub store_0 : eqb e.old.version top_version ≡ false → store z m with_it t a v n e ≡ reply 0 0 (rewrite z with_it t (written z.records a v) n)
  unfolding store
  store_0 k = rw k

-- the same, where the table with the entry is told by an equation
pub store-grown : (z : Sizes) (m with_it same after : Memory) (t a v n : ℕ) (e : Entry) → same ≡ with_it → after ≡ rewrite z same t (written z.records a v) (n + 1)
    → eqb e.old.version top_version ≡ false → reply 0 0 after ≡ store z m with_it t a v (suc n) e
store-grown z m with_it same after t a v n e q r k =
    ap (reply 0 0) (r ∙ ap (λ (x : Memory). rewrite z x t (written z.records a v) (n + 1)) q ∙ ap (rewrite z with_it t (written z.records a v)) (add-one n))
    ∙ sym (store_0 z m with_it t a v (suc n) e k)

module _ (z : Sizes) (m m' : Memory) (t a : ℕ) (q : Place) (e : Entry) (same : m' ≡ m) where
  module _ (w : Accesses z m t a (Ok (Known q e))) where
    pub write_known : (v : ℕ) → store z m' m' t a v q.count e ≡ write z m t a v
    unfolding write
    write_known v =
        ap (λ (x : Memory). store z x x t a v q.count e) same
        ∙ sym
        (w.says _ _
        ∙ ap (λ (x : Entry). store z m m t a v (place m t).count x) (sym w.shows.found)
        ∙ ap (λ (x : Place). store z m m t a v x.count e) w.shows.here)

  module _ (w : Accesses z m t a (Ok (New q e))) where
    pub write_new : (v : ℕ) → store z m' (grown z m' t q e) t a v (suc q.count) e ≡ write z m t a v
    unfolding write
    write_new v =
        ap (λ (x : Memory). store z x (grown z m' t q e) t a v (suc q.count) e) same
        ∙ ap (λ (x : Memory). store z m x t a v (suc q.count) e) (adds z m m' t a q e w same)
        ∙ sym
        (w.says _ _
        ∙ ap (λ (x : Entry). store z m (added z m t a) t a v (suc (place m t).count) x) (sym w.shows.made)
        ∙ ap (λ (x : Place). store z m (added z m t a) t a v (suc x.count) e) w.shows.here)
