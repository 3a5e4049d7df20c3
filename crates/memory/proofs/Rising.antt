-- Every task that was woken is stepped to its end, one after the other: what is left then.
use Prim.Native.Nat.{ℕ, zero, suc, ◌%◌, ◌<◌, ◌≤◌}
use mathlib.Core.Path.{◌≡◌, refl, sym, ap, ◌∙◌, subst, subst⁻¹}
use mathlib.Core.Logic.{◌⊎◌, inl, inr, ◌≢◌, ⊎_elim}
use mathlib.Core.Bool.{true, true≢false}
use native.Mathlib.Omega.{arith}
use Rattle.memory.specs.{Sizes, Woken, Phase, Releasing, Version, Owner, Entry, Memory, is, position_of, phase_of, place, entry, entries, held, ended, sound, ◌∈◌, phase, Rises, AllRise, ours}
use Rattle.memory.proofs.Tools.{same?, both}
use Rattle.memory.proofs.Codes.{is-phase, not_owner, owner_inj, count_of, phase_of_lem}
use Rattle.memory.proofs.Stores.{entry-from}
use Rattle.memory.proofs.Facts.{owner_entry}
use Rattle.memory.proofs.Fresh.{entry_in}
use Rattle.memory.proofs.Runs.{leaves_sound}
use Rattle.memory.proofs.LetGo.{the_woken_ends}

woken? : (p : Phase) → (p ≡ Releasing Woken 0) ⊎ (p ≢ Releasing Woken 0)
woken? p = ⊎_elim at (λ c. inr (λ e. true≢false (sym (ap (is (Releasing Woken 0)) e) ∙ c))) (both (is (Releasing Woken 0) p))
  where
    at : is (Releasing Woken 0) p ≡ true → (p ≡ Releasing Woken 0) ⊎ (p ≢ Releasing Woken 0)
    at c =
        let q : p ≡ Releasing Woken (position_of p) = unfold phase_of in is-phase (Releasing Woken 0) p c in
        ⊎_elim (λ e. inl (q ∙ ap (Releasing Woken) e)) (λ n. inr (λ e. n (ap position_of e))) (same? (position_of p) 0)

module _ (z : Sizes) (b : Memory) where
  -- a task below n that was woken
  abbrev pub Up : ℕ → ℕ → Type 0
  Up n w = (w < n) × (phase b w ≡ Releasing Woken 0)

  -- the record r holds an old version of w, for an entry that w has there
  abbrev pub Freed : Memory → ℕ → ℕ → Type 0
  Freed m r w = (j : ℕ) × (j < (place b w).count) × ((entry z b w j).address % z.records ≡ r) × (held m r ≡ Version (entry z b w j).old.version)

  -- They are Idle and own nothing more: each record of theirs holds an old version of its owner. Nothing else has changed.
  pub record Risen (n : ℕ) (m : Memory) : Type 0 where
    pub ok : sound z m ≡ true
    pub rises : AllRise ours z n b m
    pub own : (w : ℕ) → Up n w → place m w ≡ ended
    pub others : (w : ℕ) → (Up n w → ⊥) → place m w ≡ place b w
    pub words : m.words ≡ b.words
    pub entries_same : m.entries ≡ b.entries
    pub freed : (r : ℕ) → r < z.records → (w : ℕ) → Up n w → held b r ≡ Owner w → Freed m r w
    pub kept : (r : ℕ) → r < z.records → ((w : ℕ) → Up n w → held b r ≢ Owner w) → held m r ≡ held b r

  module _ (okb : sound z b ≡ true) where
    module _ (n : ℕ) (lt : n < z.tasks) (m : Memory) (I : Risen n m) where
      -- one task more is either the next, or was among those before
      up_less : {w : ℕ} → w ≢ n → Up (suc n) w → Up n w
      up_less ne (h, p) = (omega arith, p)

      up_more : {w : ℕ} → Up n w → Up (suc n) w
      up_more (h, p) = (omega arith, p)

      still : place m n ≡ place b n
      still = I.others n (λ x. omega (arith, x.0))

      -- the next was not woken, and is passed over
      passed : phase b n ≢ Releasing Woken 0 → Risen (suc n) m
      passed down =
          record {
            ok = I.ok;
            rises = (m, I.rises, λ p. absurd (down (sym (phase_of_lem still) ∙ p)), λ _. refl);
            own = λ w x. I.own w (less w x);
            others = λ w none. I.others w (λ x. none (up_more x));
            words = I.words;
            entries_same = I.entries_same;
            freed = λ r h w x q. I.freed r h w (less w x) q;
            kept = λ r h none. I.kept r h (λ w x. none w (up_more x));
          }
        where
          less : (w : ℕ) → Up (suc n) w → Up n w
          less w x = up_less (λ e. down (ap (phase b) (sym e) ∙ x.1)) x

      -- the next rises
      module _ (up : phase b n ≡ Releasing Woken 0) (m' : Memory) (R : Rises ours z m n m') where
        last : Up (suc n) n
        last = (omega arith, up)

        own : (w : ℕ) → Up (suc n) w → place m' w ≡ ended
        own w x = ⊎_elim (λ e. ap (place m') e ∙ R.own) (λ ne. R.others w ne ∙ I.own w (up_less ne x)) (same? w n)

        -- what the next owns, nobody before it has given back
        its : (r : ℕ) → r < z.records → held b r ≡ Owner n → Freed m' r n
        its r h q =
            let (j, d, s) = owner_entry z b okb r n h q in
            let same : entry z m n j ≡ entry z b n j = entry-from b m z I.entries_same n j in
            let there = subst (λ (e : Entry). e ∈ entries z m n) same (entry_in z m I.ok n lt j (omega (arith, d, count_of still))) in
            let mine : held m r ≡ Owner n = I.kept r h (λ w x o. omega (arith, x.0, owner_inj w n (sym o ∙ q))) ∙ q in
            (j, d, s, ap (held m') (sym s) ∙ R.freed (entry z b n j) there (ap (held m) s ∙ mine))

        freed : (r : ℕ) → r < z.records → (w : ℕ) → Up (suc n) w → held b r ≡ Owner w → Freed m' r w
        freed r h w x q =
            ⊎_elim (λ e. subst⁻¹ (Freed m' r) e (its r h (q ∙ ap Owner e)))
            (λ ne. let (j, d, s, v) = I.freed r h w (up_less ne x) q in (j, d, s, R.kept r h (λ o. not_owner _ n (sym v ∙ o)) ∙ v)) (same? w n)

        kept : (r : ℕ) → r < z.records → ((w : ℕ) → Up (suc n) w → held b r ≢ Owner w) → held m' r ≡ held b r
        kept r h none = let k = I.kept r h (λ w x. none w (up_more x)) in R.kept r h (λ o. none n last (sym k ∙ o)) ∙ k

        rose : Risen (suc n) m'
        rose =
            record {
              ok = subst⁻¹ (λ (k : Memory). sound z k ≡ true) R.is_after (leaves_sound z _ m I.ok);
              rises = (m, I.rises, λ _. R, λ down. absurd (down (phase_of_lem still ∙ up)));
              own = own;
              others = λ w none. R.others w (λ e. none (subst⁻¹ (Up (suc n)) e last)) ∙ I.others w (λ x. none (up_more x));
              words = R.words ∙ I.words;
              entries_same = R.entries_same ∙ I.entries_same;
              freed = freed;
              kept = kept;
            }

      next : (m' : Memory) × Risen (suc n) m'
      next =
          ⊎_elim (λ up. let R = the_woken_ends z m n lt I.ok (phase_of_lem still ∙ up) in (R.0, rose up R.0 R.1)) (λ down. (m, passed down))
          (woken? (phase b n))

    pub all_rise : (n : ℕ) → n ≤ z.tasks → (m : Memory) × Risen n m
    all_rise zero h = (
      b,
      record {
        ok = okb;
        rises = refl;
        own = λ w x. absurd (omega (arith, x.0));
        others = λ w none. refl;
        words = refl;
        entries_same = refl;
        freed = λ r h w x q. absurd (omega (arith, x.0));
        kept = λ r h none. refl;
      },
    )
    all_rise (suc n) h = let I = all_rise n (omega arith) in next n h I.0 I.1
