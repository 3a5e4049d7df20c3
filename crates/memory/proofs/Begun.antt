-- Start, Reads and Writes that are answered 0, and the Commit: an entry whose record holds a version has that version, and its
-- address is one of those used.
use Prim.Native.Nat.{ℕ, ◌%◌, ◌<◌}
use mathlib.Core.Path.{◌≡◌, refl, sym, ap, ◌∙◌, subst, subst⁻¹}
use mathlib.Core.Logic.{◌≢◌, ⊎_elim}
use mathlib.Core.List.Memᴰ
use mathlib.Core.List.{List, [], ◌∷◌, map}
use mathlib.Core.Bool.{true}
use lib.ListN.{length}
use native.Mathlib.Omega.{arith}
use Rattle.memory.specs.{Sizes, Commit, Open, Taking, Place, Held, Version, Owner, Seen, Entry, Memory, steps, place, entry, entries, run, held, moved, logical, logical_at, sound, ST, CM, RD, WR, call, leaves, numbers, rows_of, ◌∈◌, phase, KeepsOthers, Fresh, Entered, Use, reads, writes, use_by, address_of, body, AllZero, ours}
use Rattle.memory.proofs.Tools.{all_map, all_snoc}
use Rattle.memory.proofs.Codes.{count_of, phase_of_lem}
use Rattle.memory.proofs.Find.{find?}
use Rattle.memory.proofs.Stores.{held-from, entry-from}
use Rattle.memory.proofs.Facts.{entries_count, owns_none}
use Rattle.memory.proofs.Fresh.{entry_in}
use Rattle.memory.proofs.SoundLasts.{call-sound}
use Rattle.memory.proofs.Narrow.{calls_are_narrow}
use Rattle.memory.proofs.Answers.{one_number, numbers_given}
use Rattle.memory.proofs.Effects.{requests_leave}
use Rattle.memory.proofs.Runs.{not-refused}

keeps_on : (z : Sizes) (t : ℕ) (m m₁ m₂ : Memory) → KeepsOthers z m t m₁ → KeepsOthers z m₁ t m₂ → KeepsOthers z m t m₂
keeps_on z t m m₁ m₂ K L =
    record {
      words = L.words ∙ K.words;
      records = L.records ∙ K.records;
      places = λ u ne. L.places u ne ∙ K.places u ne;
      runs = λ u i ne h. L.runs u i ne h ∙ K.runs u i ne h;
    }

pub use_keeps : (z : Sizes) (m : Memory) (t : ℕ) (u : Use) → KeepsOthers z m t (call z m (use_by t u)).after
use_keeps z m t (reads a) = calls_are_narrow z m (RD t a)
use_keeps z m t (writes a v) = calls_are_narrow z m (WR t a v)

module _ (z : Sizes) (t : ℕ) (A : ℕ → Type 0) where
  abbrev pub Level : Memory → Entry → Type 0
  Level m e = ((v : ℕ) → held m (e.address % z.records) ≡ Version v → v ≡ e.old.version) × A e.address

  record Begun (m : Memory) : Type 0 where
    opened : phase m t ≡ Open
    level : (e : Entry) → e ∈ entries z m t → Level m e

  level_from : (m m' : Memory) → m'.records ≡ m.records → (e : Entry) → Level m e → Level m' e
  level_from m m' s e l = (λ v q. l.0 v (sym (held-from m m' s _) ∙ q), l.1)

  module _ (m : Memory) (B : Begun m) where
    -- the same address and the same old version, the same level
    level_like : (e f : Entry) → f.address ≡ e.address → f.old ≡ e.old → Level m e → Level m f
    level_like e f a o l = (
      λ v q. l.0 v (ap (λ (b : ℕ). held m (b % z.records)) (sym a) ∙ q) ∙ sym (ap (λ (s : Seen). s.version) o),
      subst⁻¹ A a l.1,
    )

    fresh_level : (a : ℕ) → A a → (e : Entry) → Fresh z m t a e → Level m e
    unfolding logical logical_at
    fresh_level a i e F =
        level_like (record { address = a; old = logical z m a; new = e.new }) e F.address F.old
        (λ v q. ap (λ (h : Held). (logical_at z m a h).version) (sym q), i)

    entered_level : (a : ℕ) → A a → (es : List Entry) → Entered z m t a es → (e : Entry) → e ∈ es → Level m e
    entered_level a i es E =
        ⊎_elim (λ k. subst⁻¹ P (E.known (λ new. new k.0 k.1 k.2)) B.level)
        (λ new. let x = E.new new in subst⁻¹ P x.2 (all_snoc (Level m) (entries z m t) x.0 B.level (fresh_level a i x.0 x.1)))
        (find? (λ e. e.address) a (entries z m t))
      where
        P : List Entry → Type 0
        P l = (e : Entry) → e ∈ l → Level m e

    used : (u : Use) → A (address_of u) → (call z m (use_by t u)).number ≡ 0 → Begun (call z m (use_by t u)).after
    used (reads a) i h =
        let x = (requests_leave z m (RD t a)).1 h in
        record { opened = x.0; level = λ e k. level_from m _ (use_keeps z m t (reads a)).records e (entered_level a i _ x.1 e k) }
    used (writes a v) i h =
        let x = (requests_leave z m (WR t a v)).1 h in
        let written = all_map (Level m) x.3 x.1 (λ f k. level_like f (x.3 f) (x.4 f).address (x.4 f).old (entered_level a i x.1 x.2 f k)) in
        record {
          opened = x.0;
          level = λ e k. level_from m _ (use_keeps z m t (writes a v)).records e (written e (subst (λ (l : List Entry). e ∈ l) x.5 k));
        }

  started : (m : Memory) → (call z m (ST t)).number ≡ 0 → Begun (call z m (ST t)).after
  started m h =
      let here = (requests_leave z m (ST t) h).0 in
      record {
        opened = phase_of_lem here;
        level = λ e k. absurd (Memᴰ.not-nil (subst (λ (q : Place). e ∈ run z (call z m (ST t)).after t q.count) here k));
      }

  uses : (us : List Use) → ((x : Use) → x ∈ us → A (address_of x)) → (m : Memory) → sound z m ≡ true → Begun m → AllZero ours z m (map (use_by t) us)
      → let m' = leaves ours z m (map (use_by t) us) in (sound z m' ≡ true) × Begun m' × KeepsOthers z m t m'
  unfolding numbers leaves
  uses [] i m ok B e = (ok, B, record { words = refl; records = refl; places = λ u ne. refl; runs = λ u i ne h. refl })
  uses (u ∷ us) i m ok B e =
      let h : (call z m (use_by t u)).number ≡ 0 = cc in
      let l : AllZero ours z (call z m (use_by t u)).after (map (use_by t) us) = cc in
      let x = uses us (λ y k. i y (Memᴰ.tail k)) _ (call-sound z m ok (use_by t u)) (used m B u (i u (Memᴰ.head refl)) h) l in
      (x.0, x.1, keeps_on z t m _ _ (use_keeps z m t u) x.2)

  -- after Start and the Reads and Writes
  begun : (us : List Use) → ((x : Use) → x ∈ us → A (address_of x)) → (m : Memory) → sound z m ≡ true → AllZero ours z m (body t us)
      → let m' = leaves ours z m (body t us) in (sound z m' ≡ true) × Begun m' × KeepsOthers z m t m'
  unfolding numbers leaves
  begun us i m ok e =
      let h : (call z m (ST t)).number ≡ 0 = cc in
      let l : AllZero ours z (call z m (ST t)).after (map (use_by t) us) = cc in
      let x = uses us i (call z m (ST t)).after (call-sound z m ok (ST t)) (started m h) l in
      (x.0, x.1, keeps_on z t m _ _ (calls_are_narrow z m (ST t)) x.2)

  -- and after the Commit
  pub record Asked (m m₁ c : Memory) : Type 0 where
    pub number : (call z m₁ (CM t)).number ≡ 0
    pub ok : sound z c ≡ true
    pub taking : phase c t ≡ Taking Commit 0
    pub count : length (entries z m₁ t) ≡ (place c t).count
    pub level : (j : ℕ) → j < (place c t).count → Level c (entry z c t j)
    pub keeps : KeepsOthers z m t c
    pub not_owner : (r : ℕ) → r < z.records → held c r ≢ Owner t

  pub asked : t < z.tasks → (us : List Use) → ((x : Use) → x ∈ us → A (address_of x)) → (m : Memory) → sound z m ≡ true → AllZero ours z m (body t us)
      → let m₁ = leaves ours z m (body t us) in Asked m m₁ (call z m₁ (CM t)).after
  asked lt us i m ok zeros =
      record {
        number = number;
        ok = call-sound z m₁ ok₁ (CM t);
        taking = phase_of_lem here;
        count = entries_count z m₁ ok₁ t lt ∙ sym count;
        level = λ j h. let e = entry z m₁ t j in
            subst⁻¹ (Level c) (same j) (level_from m₁ c K.records e (B.level e (entry_in z m₁ ok₁ t lt j (omega (arith, h, count)))));
        keeps = keeps_on z t m m₁ c x.2 K;
        not_owner = λ r h q. owns_none z m₁ ok₁ t (ap steps B.opened) r h (sym (held-from m₁ c K.records r) ∙ q);
      }
    where
      m₁ : Memory
      m₁ = leaves ours z m (body t us)

      c : Memory
      c = (call z m₁ (CM t)).after

      x : (sound z m₁ ≡ true) × Begun m₁ × KeepsOthers z m t m₁
      x = begun us i m ok zeros

      ok₁ : sound z m₁ ≡ true
      ok₁ = x.0

      B : Begun m₁
      B = x.1

      K : KeepsOthers z m₁ t c
      K = calls_are_narrow z m₁ (CM t)

      number : (call z m₁ (CM t)).number ≡ 0
      number = one_number (rows_of z m₁ (CM t) c) _ _ (numbers_given z m₁ (CM t)) (not-refused z m₁ t ok₁ lt _ [] 0 (λ d. d B.opened) refl)

      here : place c t ≡ moved (place m₁ t) (Taking Commit 0)
      here = (requests_leave z m₁ (CM t) number).0

      count : (place c t).count ≡ (place m₁ t).count
      count = count_of here

      same : (j : ℕ) → entry z c t j ≡ entry z m₁ t j
      same j = entry-from m₁ c z (requests_leave z m₁ (CM t) number).1 t j
