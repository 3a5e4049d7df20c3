-- The deciding step of a commit keeps the invariant: the log is played on the serial board.
use Prim.Native.Nat.{ℕ, ◌+◌, ◌%◌}
use mathlib.Core.Path.{◌≡◌, refl, sym, ap, ◌∙◌, subst, subst⁻¹}
use mathlib.Core.Logic.{inl, inr, ⊎_elim}
use mathlib.Core.List.{List, [], ◌∷◌}
use mathlib.Core.Bool.{Bool, true, false, ◌||◌, true≢false}
use lib.Dec.{eqb}
use lib.ListN.{length}
use native.Mathlib.Omega.{arith}
use borrow.Author.Tests.{eq-eqb}
use lib.Seq.{take_all}
use Rattle.memory.specs.{Commit, Taking, Writing, Owner, Entry, wakes, upd, ◌∈◌, Op, met, took, put, play, Finds, puts, wrote, bit}
use Rattle.memory.proofs.Tools.{both, upd_other}
use Rattle.memory.proofs.Invariant.{State, Owns, Matches, Logged, Inv, Same, step}
use Rattle.memory.proofs.Quiet.{onto, now, has, versions, not_pending}
use Rattle.memory.proofs.Codes.{not_owner, owner_inj}
use Rattle.memory.proofs.Find.{find?}

or_left : (x y : Bool) → (x || y) ≡ false → x ≡ false
or_left true y c = absurd (true≢false c)
or_left false y c = refl

or_right : (x y : Bool) → (x || y) ≡ false → y ≡ false
or_right true y c = absurd (true≢false c)
or_right false y c = c

-- what a log did not write to is as it was
pub unput : (p : ℕ → Bool) (C : ℕ → ℕ) (a : ℕ) → p a ≡ true → (l : List Op) → puts p l ≡ false → play C l a ≡ C a
unput p C a here [] w = refl
unput p C a here (met b v x ∷ l) w = unput p C a here l w
unput p C a here (took b v ∷ l) w = unput p C a here l w
unput p C a here (put b v ∷ l) w =
    upd_other (play C l) b v a (λ q. true≢false (sym here ∙ ap p q ∙ or_left (p b) (puts p l) w)) ∙ unput p C a here l (or_right (p b) (puts p l) w)

pub unwritten : (n : ℕ) (C : ℕ → ℕ) (a : ℕ) (l : List Op) → wrote n (a % n) l ≡ false → play C l a ≡ C a
unwritten n C a l w = unput (λ b. eqb (a % n) (b % n)) C a (eq-eqb (a % n) (a % n) refl) l w

module _ (n : ℕ) (B W : ℕ → ℕ) (S : State) (I : Inv n B W S) (t i : ℕ) (ph : (S.task t).phase ≡ Taking Commit i) (all : i ≡ length (S.task t).ents) where
  abbrev es : List Entry
  es = (S.task t).ents

  abbrev l : List Op
  l = (S.task t).log

  abbrev B' : ℕ → ℕ
  B' = play B l

  abbrev W' : ℕ → ℕ
  W' = λ r. W r + bit (wrote n r l)

  owned : Owns n S.held t es
  owned e m = (now n B W S I t (Taking Commit i) ph).2 e (subst⁻¹ (λ (k : List Entry). e ∈ k) (take_all i es (omega arith)) m)

  L : Logged n l es
  L = (now n B W S I t (Taking Commit i) ph).1

  -- a record that the log wrote to is owned
  writes_own : (r : ℕ) → wrote n r l ≡ true → S.held r ≡ Owner t
  writes_own r w = let c = L.covers r w in subst (λ (k : ℕ). S.held k ≡ Owner t) c.2 (owned c.0 c.1)

  -- a record that the log did not write to is as it was
  still : (r : ℕ) → wrote n r l ≡ false → Same n B W B' W' r
  still r w = (omega (arith, ap bit w), λ a q. unwritten n B a l (ap (λ (k : ℕ). wrote n k l) q ∙ w))

  stamped : (e : Entry) → e ∈ es → e.old.version ≡ W (e.address % n)
  stamped e m = versions n B W S I t (Taking Commit i) ph _ (owned e m) e m refl

  matches : Matches n B es
  matches e m = sym (((now n B W S I t (Taking Commit i) ph).0 e m).1 (stamped e m))

  pub finds : Finds B l
  finds = L.finds B matches

  pub decide_keeps : Inv n B' W' (record { word = S.word; held = S.held; task = upd S.task t (onto (S.task t) (Writing 0)) })
  decide_keeps =
      step n B W S t (onto (S.task t) (Writing 0)) B' W' S.word S.held I
      (record {
        awake = ap wakes ph;
        listed = λ w j. I.listed t w j;
        kept = λ u ne r o. o;
        back = λ u ne r o. o;
        adv = λ r. ⊎_elim
            (λ w. inr (omega (arith, ap bit w), λ u ne o. ne (owner_inj u t (sym o ∙ writes_own r w))))
            (λ w. inl (still r w)) (both (wrote n r l));
        ver = λ r v b q. ⊎_elim (λ w. not_owner v t (sym q ∙ writes_own r w)) (λ w. I.ver r v b q ∙ sym (still r w).0) (both (wrote n r l));
        own = λ r o. record {
          has = has n B W S I t (Taking Commit i) ph r o;
          versions = λ e m q. L.bumps e m ∙ ap (λ (k : ℕ). k + bit (wrote n (e.address % n) l)) (stamped e m) ∙ ap W' q;
        };
        words = λ a. ⊎_elim
            (λ c. ⊎_elim (λ f. inr (record { at = 0; phase = refl; entry = f.0; among = f.1; address = f.2 }))
            (λ f. inl (c ∙ sym (L.stays B a f))) (find? (λ e. e.address) a es))
            (λ k. absurd (not_pending n B W S I t (Taking Commit i) ph refl a k));
        mine = (λ e m o. sym (L.ends B matches e m), owned);
      })
