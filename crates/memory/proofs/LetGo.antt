-- A task in Releasing steps to its end, and gives back each record that it owns. So one that was woken ends.
use Prim.Native.Nat.{ℕ, zero, suc, ◌+◌, ◌%◌, ◌<◌}
use mathlib.Core.Path.{◌≡◌, refl, sym, ap, ◌∙◌, subst}
use mathlib.Core.Logic.{◌⊎◌, inl, inr, ◌≢◌, ⊎_elim}
use mathlib.Core.Bool.{true}
use native.Mathlib.Omega.{arith}
use native.Mathlib.Nat.{mod-lt}
use Rattle.memory.specs.{Sizes, Outcome, Committed, Failed, Woken, Releasing, Place, Held, Version, Owner, Entry, Memory, steps, place, entry, held, moved, ended, sound, end_number, SP, call, phase, final, TheWokenEnds, ours}
use Rattle.memory.proofs.Codes.{phase_of_lem}
use Rattle.memory.proofs.Facts.{some_record, agree, owns_none}
use Rattle.memory.proofs.Fresh.{in_entries}
use Rattle.memory.proofs.Tables.{is_owner?, words_back}
use Rattle.memory.proofs.Runs.{Reaches, arrives, goes_on}
use Rattle.memory.proofs.OneStep.{Stands, Since, sets_out, since_same, since_but, frees, passes, ends}

final-same : (o : Outcome) (e f : Entry) → (e.old.version ≡ f.old.version) × (e.new.version ≡ f.new.version) → final o e ≡ final o f
final-same Committed e f s = s.1
final-same Failed e f s = s.0
final-same Woken e f s = s.0

module _ (z : Sizes) (t : ℕ) (lt : t < z.tasks) (o : Outcome) (b : Memory) (okb : sound z b ≡ true) where
  abbrev n : ℕ
  n = (place b t).count

  abbrev e : ℕ → Entry
  e i = entry z b t i

  abbrev rec : ℕ → ℕ
  rec i = (e i).address % z.records

  -- a record is as it was, or the task had it and has given it back
  abbrev pub Back : ℕ → Held → Type 0
  Back r h = (h ≡ held b r) ⊎ ((held b r ≡ Owner t) × ((k : ℕ) → k < n → rec k ≡ r → h ≡ Version (final o (e k))))

  abbrev pub LetGo : Memory → Place → Type 0
  LetGo m q = Since z t lt b Back m q

  lets_one : (m : Memory) (j : ℕ) → LetGo m (moved (place b t) (Releasing o j)) → j < n
      → ((call z m (SP t)).number ≡ 0) × LetGo (call z m (SP t)).after (moved (place b t) (Releasing o (suc j)))
  lets_one m j L h =
      ⊎_elim (λ q. let S = frees z t lt b m o j L.standing h q in (S.number, since_but z t lt b L S (given q (L.records (rec j)))))
      (λ q. let S = passes z t lt b m o j L.standing h q in (S.number, since_same z t lt b L S)) (is_owner? (held m (rec j)) t)
    where
      given : held m (rec j) ≡ Owner t → Back (rec j) (held m (rec j)) → Back (rec j) (Version (final o (e j)))
      given q x = inr (⊎_elim (λ y. sym y ∙ q) (λ y. y.0) x, λ k d s. ap Version (final-same o (e j) (e k) (agree z b okb t lt j k h d (sym s))))

  lets_all : (k : ℕ) (m : Memory) (j : ℕ) → k + j ≡ n → LetGo m (moved (place b t) (Releasing o j)) → Reaches z t m k (end_number o) (λ m'. LetGo m' ended)
  lets_all zero m j s L =
      let S = ends z t lt b m o (subst (λ (i : ℕ). Stands z t lt b m (moved (place b t) (Releasing o i))) (omega arith) L.standing) in
      arrives z t m _ _ S.number (since_same z t lt b L S)
  lets_all (suc k) m j s L = let x = lets_one m j L (omega arith) in goes_on z t m _ _ k x.0 (lets_all k _ (suc j) (omega arith) x.1)

  -- from the beginning to the end
  pub lets_go : phase b t ≡ Releasing o 0 → Reaches z t b n (end_number o) (λ m'. LetGo m' ended)
  lets_go q = lets_all n b 0 (omega arith) (sets_out z t lt b okb (Releasing o 0) q (λ r. inl refl))

  -- what each record holds then
  module _ (m : Memory) (L : LetGo m ended) (r : ℕ) where
    pub freed : r < z.records → held b r ≡ Owner t → (k : ℕ) → k < n → rec k ≡ r → held m r ≡ Version (final o (e k))
    freed h q k d s =
        ⊎_elim (λ x. absurd (owns_none z m L.standing.ok t (ap steps (phase_of_lem L.standing.own)) r h (x ∙ q))) (λ x. x.1 k d s) (L.records r)

    pub kept : held b r ≢ Owner t → held m r ≡ held b r
    kept ne = ⊎_elim (λ x. x) (λ x. absurd (ne x.0)) (L.records r)

pub the_woken_ends : TheWokenEnds ours
the_woken_ends z m u lt ok q =
    let R = lets_go z u lt Woken m ok q in
    let L = R.there in (
      _,
      record {
        is_after = refl;
        answers = ((place m u).count, R.answers);
        own = L.standing.own;
        others = L.standing.others;
        words = words_back z m _ ok L.standing.ok L.words;
        entries_same = L.standing.entries;
        freed = λ e k o.
            let i = in_entries z m ok u lt e k in
            let there : (entry z m u i.0).address % z.records ≡ e.address % z.records = ap (λ (f : Entry). f.address % z.records) (sym i.2) in
            freed z u lt Woken m ok _ L (e.address % z.records) (mod-lt e.address (some_record z m ok)) o i.0 i.1 there
            ∙ ap (λ (f : Entry). Version f.old.version) (sym i.2);
        kept = λ r h ne. kept z u lt Woken m ok _ L r ne;
      },
    )
