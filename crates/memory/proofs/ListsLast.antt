-- Sound lists (§10.13, §10.14) as facts, and that they stay sound where the place of one task changes that does not sleep.
use Prim.Native.Nat.{ℕ, ◌^◌, ◌<◌}
use mathlib.Core.Path.{◌≡◌, refl, sym, ap, ◌∙◌, subst, subst⁻¹}
use mathlib.Core.Logic.{◌⊎◌, inl, inr, ◌≢◌, ⊎_elim}
use mathlib.Core.Bool.{Bool, true, false, not, ◌||◌, true≢false}
use lib.Dec.{eqb}
use borrow.Author.Tests.{lt-ltb, eqb-true}
use Rattle.memory.specs.{Sizes, Phase, Place, Memory, place, bare, sound, has, on_list, leads, may_join, join_ok, joins_ok, lists_ok, wakes, joined, Joined}
use Rattle.memory.proofs.Tools.{both, same?, and_make, below_make}
use Rattle.memory.proofs.Sets.{has_none, in_set, set-small, none_small}
use Rattle.memory.proofs.Leads.{or_cases, leads_first, leads-grown}
use Rattle.memory.proofs.Facts.{joins_small, joined_ok, none_on, no_way_back}

pub record Lists (z : Sizes) (m : Memory) : Type 0 where
  pub small : (t : ℕ) → t < z.tasks → (place m t).joins.bits < 2 ^ z.tasks
  pub fit : (t w : ℕ) → t < z.tasks → Joined m t w → (wakes (place m w).phase ≡ true) × (may_join (place m t).phase ≡ true)
  pub ahead : (t : ℕ) → t < z.tasks → leads (on_list m) z.tasks t t ≡ true → ⊥

guarded : (b c : Bool) → (b ≡ true → c ≡ true) → (not b || c) ≡ true
guarded true c f = f refl
guarded false c f = refl

pub lists_make : (z : Sizes) (m : Memory) → Lists z m → lists_ok z m ≡ true
unfolding lists_ok joins_ok join_ok on_list
lists_make z m L =
    and_make
    (below_make z.tasks (λ t. joins_ok z m t) (λ t h. and_make (lt-ltb _ _ (L.small t h))
    (below_make z.tasks (λ w. join_ok m w t) (λ w k. guarded (has (place m t).joins.bits w) _ (λ j. let f = L.fit t w h j in and_make f.0 f.1)))))
    (below_make z.tasks (λ t. not (leads (on_list m) z.tasks t t))
    (λ t h. ⊎_elim (λ e. absurd (L.ahead t h e)) (λ e. ap not e) (both (leads (on_list m) z.tasks t t))))

-- One task changes -------------------------------------------------------------------------------------------------------------------

-- A task that does not sleep, so has no list, may come to a place q: whomever it has joined there sleeps, and then it may be on a list.
pub record Fit (z : Sizes) (m : Memory) (t : ℕ) (q : Place) : Type 0 where
  pub awake : wakes (place m t).phase ≡ false
  pub small : q.joins.bits < 2 ^ z.tasks
  pub joins : (w : ℕ) → has q.joins.bits w ≡ true → (wakes (place m w).phase ≡ true) × (may_join q.phase ≡ true)

module _ (z : Sizes) (m : Memory) (ok : sound z m ≡ true) (t : ℕ) where
  pub lists_step : (m' : Memory) → ((u : ℕ) → u ≢ t → place m' u ≡ place m u) → Fit z m t (place m' t) → lists_ok z m' ≡ true
  lists_step m' others F =
      lists_make z m' (record {
        small = λ u h. small u h (same? u t);
        fit = λ u w h j. let k = fit u w (same? u t) j in (sleeps w k.0, k.1);
        ahead = λ a h e. ⊎_elim (λ q. nowhere (subst (λ (x : ℕ). leads (on_list m') z.tasks x x ≡ true) q e)) (no_way_back z m ok a)
            (leads-grown (on_list m) (on_list m') t no_list before z.tasks a a e);
      })
    where
      small : (u : ℕ) → u < z.tasks → (u ≡ t) ⊎ (u ≢ t) → (place m' u).joins.bits < 2 ^ z.tasks
      small u h (inl e) = subst⁻¹ (λ (x : ℕ). (place m' x).joins.bits < 2 ^ z.tasks) e F.small
      small u h (inr ne) = subst⁻¹ (λ (q : Place). q.joins.bits < 2 ^ z.tasks) (others u ne) (joins_small z m ok u h)

      fit : (u w : ℕ) → (u ≡ t) ⊎ (u ≢ t) → Joined m' u w → (wakes (place m w).phase ≡ true) × (may_join (place m' u).phase ≡ true)
      fit u w (inl e) j =
          let k = F.joins w (subst (λ (x : ℕ). Joined m' x w) e j) in
          (k.0, subst⁻¹ (λ (x : ℕ). may_join (place m' x).phase ≡ true) e k.1)
      fit u w (inr ne) j =
          let k = joined_ok z m ok u w (subst (λ (q : Place). has q.joins.bits w ≡ true) (others u ne) j) in
          (k.0, subst⁻¹ (λ (q : Place). may_join q.phase ≡ true) (others u ne) k.1)

      -- a sleeper is another task, and sleeps on
      sleeps : (w : ℕ) → wakes (place m w).phase ≡ true → wakes (place m' w).phase ≡ true
      sleeps w s =
          ap (λ (q : Place). wakes q.phase) (others w (λ q. true≢false (sym s ∙ ap (λ (x : ℕ). wakes (place m x).phase) q ∙ F.awake))) ∙ s

      -- the task has no list, before and after; whoever else is on one was on it
      no_list : (b : ℕ) → on_list m t b ≡ true → ⊥
      no_list b e = none_on z m ok t F.awake b (unfold on_list in e)

      nowhere : leads (on_list m') z.tasks t t ≡ true → ⊥
      nowhere e =
          let k = leads_first (on_list m') z.tasks t t e in
          true≢false (sym (fit k.0 t (same? k.0 t) (unfold on_list in k.1)).0 ∙ F.awake)

      before : (a b : ℕ) → on_list m' a b ≡ true → (b ≡ t) ⊎ (on_list m a b ≡ true)
      before a b e = unfold on_list in
          ⊎_elim (λ q. inl q) (λ ne. inr (subst (λ (q : Place). has q.joins.bits a ≡ true) (others b ne) e)) (same? b t)

  -- The places to which it may come --------------------------------------------------------------------------------------------------

  module _ (lt : t < z.tasks) (awake : wakes (place m t).phase ≡ false) where
    -- on the lists on which it is, on none, and on that of one sleeper more
    pub fit_kept : (q : Place) → q.joins.bits ≡ (place m t).joins.bits → (may_join (place m t).phase ≡ true → may_join q.phase ≡ true) → Fit z m t q
    fit_kept q e f =
        record {
          awake = awake;
          small = subst⁻¹ (λ (s : ℕ). s < 2 ^ z.tasks) e (joins_small z m ok t lt);
          joins = λ w j. let k = joined_ok z m ok t w (subst (λ (s : ℕ). has s w ≡ true) e j) in (k.0, f k.1);
        }

    pub fit_bare : (n : ℕ) (p : Phase) → Fit z m t (bare n p)
    fit_bare n p =
        record { awake = awake; small = none_small z.tasks; joins = λ w j. absurd (true≢false (sym j ∙ has_none w)) }

    pub fit_joined : (u : ℕ) (p : Phase) → wakes (place m u).phase ≡ true → may_join p ≡ true → Fit z m t (joined z u (place m t) p)
    unfolding joined
    fit_joined u p s f =
        record { awake = awake; small = set-small z.tasks on; joins = λ w j. (sleeps w (or_cases (eqb w u) (has (place m t).joins.bits w) (in_set z.tasks on w j).1), f) }
      where
        on : ℕ → Bool
        on w = eqb w u || has (place m t).joins.bits w

        sleeps : (w : ℕ) → (eqb w u ≡ true) ⊎ (has (place m t).joins.bits w ≡ true) → wakes (place m w).phase ≡ true
        sleeps w (inl e) = ap (λ (x : ℕ). wakes (place m x).phase) (eqb-true w u e) ∙ s
        sleeps w (inr j) = (joined_ok z m ok t w j).0
