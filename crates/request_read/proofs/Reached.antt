-- What Read answers by the entry that it found or made.
use Prim.Native.Nat.{ℕ}
use mathlib.Core.Path.{◌≡◌, sym, ap, ◌∙◌}
use Rattle.std.specs.Prelude.{Ok}
use Rattle.memory.specs.declared.Sizes.{Sizes}
use Rattle.memory.specs.declared.Place.{Place}
use Rattle.memory.specs.declared.Entry.{Entry}
use Rattle.memory.specs.Pieces.{Memory}
use Rattle.memory.specs.Numbers.{reply}
use Rattle.memory.specs.Requests.{read, added}
use Rattle.task_descriptor.specs.Contract.{grown}
use Rattle.request_access.specs.declared.Access.TheVariants.{Known, New}
use Rattle.request_access.specs.Contract.{Accesses}
use Rattle.request_access.proofs.Added.{adds}

module _ (z : Sizes) (m m' : Memory) (t a : ℕ) (q : Place) (e : Entry) (same : m' ≡ m) where
  pub read_known : Accesses z m t a (Ok (Known q e)) → reply 0 e.new.value m' ≡ read z m t a
  unfolding read
  read_known w = ap (reply 0 e.new.value) same ∙ sym (w.says _ _ ∙ ap (λ (x : Entry). reply 0 x.new.value m) (sym w.shows.found))

  pub read_new : Accesses z m t a (Ok (New q e)) → reply 0 e.new.value (grown z m' t q e) ≡ read z m t a
  unfolding read
  read_new w =
      ap (reply 0 e.new.value) (adds z m m' t a q e w same)
      ∙ sym (w.says _ _ ∙ ap (λ (x : Entry). reply 0 x.new.value (added z m t a)) (sym w.shows.made))
