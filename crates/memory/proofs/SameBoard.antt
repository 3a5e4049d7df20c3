-- After a try that failed and the ends of the woken every address has the logical value and version that it had, if the board was
-- plain. A reached board is plain where it is calm.
use Prim.Native.Nat.{ℕ, ◌%◌, ◌<◌}
use mathlib.Core.Path.{◌≡◌, refl, sym, ap, ◌∙◌}
use mathlib.Core.Logic.{◌⊎◌, inl, inr, ◌≢◌, ⊎_elim}
use mathlib.Core.List.{List}
use mathlib.Core.Bool.{true, false}
use lib.ListN.{get_or}
use native.Mathlib.Omega.{arith}
use native.Mathlib.Nat.{mod-lt}
use Rattle.memory.specs.{Sizes, Phase, Idle, Asleep, Writing, Place, Held, Version, Owner, Seen, Entry, Memory, kind_of, steps, committed, place, entries, held, owned_at, logical, logical_at, shown, sound, ◌∈◌, Led, phase, KeepsOthers, Use, Calm, Plain, CalmIsPlain, Scene}
use Rattle.memory.proofs.Codes.{count_of}
use Rattle.memory.proofs.Find.{find?}
use Rattle.memory.proofs.Stores.{held-from}
use Rattle.memory.proofs.Facts.{some_record, owner_task, owns_none, entries_same}
use Rattle.memory.proofs.Fresh.{agreed}
use Rattle.memory.proofs.Meanings.{logical_means}
use Rattle.memory.proofs.Invariant.{Pending}
use Rattle.memory.proofs.Look.{clean}
use Rattle.memory.proofs.View.{view}
use Rattle.memory.proofs.Good.{logical_right}
use Rattle.memory.proofs.Serial.{Fine, always}
use Rattle.memory.proofs.Tables.{keeps_place}
use Rattle.memory.proofs.WholeTurns.{Woke, led_owner?}

-- a reached board on which nobody writes has its logical values in its words
fine_plain : (s : Scene) → Fine s → Calm s.sizes s.memory → Plain s.sizes s.memory
unfolding view
fine_plain s f calm a = (logical_right z s.first m s.notes f.1 a).0 ∙ sym (clean z.records _ _ (view z m s.notes.logs) f.1.1 a none)
  where
    z : Sizes
    z = s.sizes

    m : Memory
    m = s.memory

    none : (t : ℕ) → held m (a % z.records) ≡ Owner t → Pending z.records ((view z m s.notes.logs).task t) a → ⊥
    none t o p = go (calm t (owner_task z m f.0 (a % z.records) t (mod-lt a (some_record z m f.0)) o))
      where
        writes : phase m t ≡ Writing p.at
        writes = p.phase

        go : (phase m t ≡ Idle) ⊎ (phase m t ≡ Asleep) → ⊥
        go (inl e) = let k : ◌≡◌ {A = ℕ} 0 5 = ap kind_of (sym e ∙ writes) in omega (arith, k)
        go (inr e) = let k : ◌≡◌ {A = ℕ} 4 5 = ap kind_of (sym e ∙ writes) in omega (arith, k)

pub calm_is_plain : CalmIsPlain
calm_is_plain = always (λ s. Calm s.sizes s.memory → Plain s.sizes s.memory) fine_plain

-- The logical value and version depend on words, records, and owners -----------------------------------------------------------------------

logical-same : (z : Sizes) (m m' : Memory) (a : ℕ) → m'.words ≡ m.words → held m' (a % z.records) ≡ held m (a % z.records)
    → ((w : ℕ) → held m (a % z.records) ≡ Owner w → (place m' w ≡ place m w) × (entries z m' w ≡ entries z m w)) → logical z m' a ≡ logical z m a
unfolding logical logical_at
logical-same z m m' a words same owner = ap (logical_at z m' a) same ∙ go (held m (a % z.records)) refl
  where
    go : (h : Held) → held m (a % z.records) ≡ h → logical_at z m' a h ≡ logical_at z m a h
    go (Version v) q = ap (λ (l : List ℕ). record { value = get_or l a 0; version = v }) words
    go (Owner w) q =
        let o = owner w q in
        ap (λ (p : Place). owned_at z.records (committed p.phase) (entries z m' w) a (get_or m'.words a 0)) o.0
        ∙ ap (λ (l : List Entry). owned_at z.records (committed (phase m w)) l a (get_or m'.words a 0)) o.1
        ∙ ap (λ (l : List ℕ). owned_at z.records (committed (phase m w)) (entries z m w) a (get_or l a 0)) words

-- a task that owns nothing, and changes nothing but its own
pub logical_kept : (z : Sizes) (m m' : Memory) (t : ℕ) → sound z m ≡ true → sound z m' ≡ true → steps (phase m t) ≡ false → KeepsOthers z m t m'
    → (a : ℕ) → logical z m' a ≡ logical z m a
logical_kept z m m' t ok ok' s K a =
    logical-same z m m' a K.words (held-from m m' K.records _) (λ w q.
    let h : w < z.tasks = owner_task z m ok (a % z.records) w (mod-lt a (some_record z m ok)) q in
    let ne : w ≢ t = λ e. owns_none z m ok w (ap (λ (x : ℕ). steps (phase m x)) e ∙ s) (a % z.records) (mod-lt a (some_record z m ok)) q in
    let p = keeps_place z m m' t K w ne in
    (p, entries_same z m m' ok ok' w h (count_of p) (λ j d. K.runs w j ne d)))

-- A try that failed, and the ends of the woken ------------------------------------------------------------------------------------------------

module _ (z : Sizes) (m : Memory) (t : ℕ) (ok : sound z m ≡ true) (idle : phase m t ≡ Idle) (us : List Use) (woke : Woke z m t us) where
  abbrev u : ℕ
  u = woke.u

  abbrev m₂ : Memory
  m₂ = woke.m₂

  module _ (a : ℕ) where
    abbrev r : ℕ
    r = a % z.records

    low : r < z.records
    low = mod-lt a (some_record z m ok)

    by_others : ((w : ℕ) → Led m u w → held m r ≢ Owner w) → logical z m₂ a ≡ logical z m a
    by_others n =
        logical-same z m m₂ a woke.words (woke.kept r low n) (λ w q.
        let not_t : w ≢ t = λ e. owns_none z m ok w (ap (λ (x : ℕ). steps (phase m x)) e ∙ ap steps idle) r low q in
        let p : place m₂ w ≡ place m w = woke.others w (λ l. n w l q) in (
          p,
          entries_same z m m₂ ok woke.ok w (owner_task z m ok r w low q) (count_of p) (λ j d. woke.runs w j not_t d),
        ))

    module _ (w : ℕ) (led : Led m u w) (owned : held m r ≡ Owner w) where
      x : (f : Entry) × f ∈ entries z m w × (f.address % z.records ≡ r) × (held m₂ r ≡ Version f.old.version)
      x = woke.freed r low w led owned

      abbrev f : Entry
      f = x.0

      then_is : logical z m₂ a ≡ record { value = get_or m.words a 0; version = f.old.version }
      then_is =
          (logical_means z m₂ woke.ok a).free f.old.version x.3
          ∙ ap (λ (l : List ℕ). record { value = get_or l a 0; version = f.old.version }) woke.words

      was_version : (logical z m a).version ≡ f.old.version
      was_version =
          ⊎_elim (λ k.
          ap (λ (s : Seen). s.version) ((logical_means z m ok a).known w owned k.0 k.1 k.2 ∙ ap (λ (p : Phase). shown p k.0) (woke.slept w led))
          ∙ (agreed z m ok w (owner_task z m ok r w low owned) k.0 f k.1 x.1 (ap (λ (b : ℕ). b % z.records) k.2 ∙ sym x.2)).0)
          (λ new.
          ap (λ (s : Seen). s.version) ((logical_means z m ok a).beside w owned new f x.1 x.2) ∙ ap (λ (p : Phase). (shown p f).version) (woke.slept w led))
          (find? (λ e. e.address) a (entries z m w))

      by_woken : (logical z m a).value ≡ get_or m.words a 0 → logical z m₂ a ≡ logical z m a
      by_woken p =
          then_is ∙ ap (λ (v : ℕ). record { value = get_or m.words a 0; version = v }) (sym was_version)
          ∙ ap (λ (v : ℕ). record { value = v; version = (logical z m a).version }) (sym p)

    pub same-board : (logical z m a).value ≡ get_or m.words a 0 → logical z m₂ a ≡ logical z m a
    same-board p = ⊎_elim (λ x. by_woken x.0 x.1 x.2 p) by_others (led_owner? z m ok u (held m r))

  pub still_plain : Plain z m → Plain z m₂
  still_plain p a = ap (λ (s : Seen). s.value) (same-board a (p a)) ∙ p a ∙ ap (λ (l : List ℕ). get_or l a 0) (sym woke.words)
