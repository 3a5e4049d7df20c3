-- How a Read or Write goes on, number by number, on a sound table.
use Rattle.std.specs.Prelude.{Option, Some, None, Result, Ok, Err, IsErrAnd, if◌then◌else◌}
use Prim.Native.Nat.{ℕ, ◌<◌, ◌≤◌}
use mathlib.Core.Path.{◌≡◌, refl, sym, ap, ◌∙◌, subst, subst⁻¹}
use mathlib.Core.Logic.{⊎_elim}
use mathlib.Core.Bool.{true, false}
use lib.Dec.{leb}
use native.Mathlib.Omega.{arith}
use borrow.Author.Tests.{lt-ltb, le-ltb, leb-false}
use Rattle.memory.specs.declared.Sizes.{Sizes}
use Rattle.memory.specs.declared.Place.{Place}
use Rattle.memory.specs.declared.Entry.{Entry}
use Rattle.memory.specs.declared.refusal.Refusal.{Refusal}
use Rattle.memory.specs.declared.refusal.Refusal.TheVariants.{NoTask, TooEarly, NoAddress, Full, Overtaken}
use Rattle.memory.specs.Pieces.{Memory, is_open, place, entries, run, limit, ended, set_place}
use Rattle.memory.specs.Logical.{index_of}
use Rattle.memory.specs.Sound.{sound}
use Rattle.memory.specs.Numbers.{Reply, reply, refused, refusal_number}
use Rattle.memory.specs.Requests.{addressed, fresh, overtaken}
use Rattle.memory.proofs.Tools.{if_cases}
use Rattle.memory.proofs.Codes.{is_open_lem}
use Rattle.memory.proofs.Facts.{entries_count}
use Rattle.memory.proofs.SoundReads.{added-sound}
use Rattle.table_search.specs.Contract.{found}
use Rattle.table_search.proofs.Found.{when_some, when_none}
use Rattle.task_permit.specs.Contract.{Permits}
use Rattle.request_fresh.specs.Contract.{new_entry}
use Rattle.request_access.specs.declared.Access.{Access}
use Rattle.request_access.specs.declared.Access.TheVariants.{Known, New}
use Rattle.request_access.specs.Contract.{Accesses, left}

-- a refusal that `?` hands on
pub handed : {z : Sizes} {m : Memory} {t a : ℕ} {r : Refusal} (w : Result Access Refusal) → IsErrAnd w (λ e. e ≡ r) → Accesses z m t a (Err r) → Accesses z m t a w
handed (Ok x) e h = absurd e
handed {z} {m} {t} {a} (Err x) e h = subst⁻¹ (λ (y : Refusal). Accesses z m t a (Err y)) e h

-- how a new address goes on
abbrev pub made : Place → Result Entry Refusal → Result Access Refusal
made q (Err r) = Err r
made q (Ok e) = Ok (New q e)

module _ (z : Sizes) (m : Memory) (ok : sound z m ≡ true) where
  module _ (t a : ℕ) where
    -- a task that may not ask: all is left as it was
    pub access_refused : (r : Refusal) → Permits z m t is_open (Err r) → Accesses z m t a (Err r)
    unfolding addressed
    access_refused r p =
        let kept : left m t (Err r) ≡ m = ⊎_elim (λ (e : r ≡ NoTask). rw e) (λ (e : r ≡ TooEarly (place m t).phase). rw e) p.shows in
        record { says = λ old new. p.says _ ∙ ap (refused (refusal_number r)) (sym kept); shows = λ e. ⊎_elim (λ f. cc) (λ f. cc) p.shows }

    module _ (q : Place) (p : Permits z m t is_open (Ok q)) where
      pub access_5 : z.words ≤ a → Accesses z m t a (Err NoAddress)
      unfolding addressed
      access_5 h = record { says = λ old new. p.says _ ∙ rw (le-ltb a z.words h); shows = λ e. cc }

      -- the permit's place is the task's
      at_place : (P : ℕ → Type 0) → P q.count → P (place m t).count
      at_place P = subst⁻¹ (λ (x : Place). P x.count) p.shows.1

      -- a search for the address
      abbrev searched : ℕ → Option Entry
      searched n = found (index_of a (run z m t n)) (run z m t n)

      module _ (inside : a < z.words) where
        pub access_known : (e : Entry) → searched q.count ≡ Some e → Accesses z m t a (Ok (Known q e))
        unfolding addressed
        access_known e k =
            let found = when_some (index_of a (entries z m t)) (entries z m t) e (at_place (λ n. searched n ≡ Some e) k) in
            let below : index_of a (entries z m t) < (place m t).count = omega (arith, found.0, entries_count z m ok t p.shows.0) in
            record {
              says = λ old new. p.says _ ∙ rw (lt-ltb a z.words inside, lt-ltb _ _ below);
              shows = record { task = p.shows.0; inside = inside; here = p.shows.1; is_open = p.shows.2; found = found.1 };
            }

        module _ (none : searched q.count ≡ None) where
          unknown : (place m t).count ≤ index_of a (entries z m t)
          unknown =
              let w = when_none (index_of a (entries z m t)) (entries z m t) (at_place (λ n. searched n ≡ None) none) in
              omega (arith, w, entries_count z m ok t p.shows.0)

          new_address : (old new : Reply) → addressed z m t a old new
              ≡ (if leb (limit z) q.count then refused 6 m else if overtaken z m t a then reply 9 0 (set_place m t ended) else new)
          unfolding addressed
          new_address old new =
              p.says _ ∙ rw (lt-ltb a z.words inside, le-ltb _ _ unknown)
              (ap (λ (x : Place). if leb (limit z) x.count then refused 6 m else if overtaken z m t a then reply 9 0 (set_place m t ended) else new) p.shows.1)

          access_6 : leb (limit z) q.count ≡ true → Accesses z m t a (Err Full)
          access_6 full = record { says = λ old new. new_address old new ∙ rw full; shows = λ e. cc }

          module _ (room : leb (limit z) q.count ≡ false) where
            access_9 : overtaken z m t a ≡ true → Accesses z m t a (Err Overtaken)
            access_9 o = record { says = λ old new. new_address old new ∙ rw (room, o); shows = λ e. p.shows.0 }

            access_0 : overtaken z m t a ≡ false → Accesses z m t a (Ok (New q (fresh z m t a)))
            access_0 o =
                record {
                  says = λ old new. new_address old new ∙ rw (room, o);
                  shows = record {
                    task = p.shows.0;
                    inside = inside;
                    here = p.shows.1;
                    is_open = p.shows.2;
                    room = leb-false _ _ room;
                    made = refl;
                    lasts = added-sound z m ok t a p.shows.0 (ap (λ (x : Place). x.phase) p.shows.1 ∙ is_open_lem q.phase p.shows.2) inside unknown
                        (at_place (λ n. n < limit z) (leb-false _ _ room)) o;
                  };
                }

          pub access_new : (w w' : Result Entry Refusal) → w ≡ new_entry z m t a q.count → w ≡ w' → Accesses z m t a (made q w')
          unfolding new_entry
          access_new w w' e told =
              subst (λ (x : Result Entry Refusal). Accesses z m t a (made q x)) (sym e ∙ told)
              (if_cases (λ (x : Result Entry Refusal). Accesses z m t a (made q x)) (leb (limit z) q.count) _ _ access_6 (λ room.
              if_cases (λ (x : Result Entry Refusal). Accesses z m t a (made q x)) (overtaken z m t a) _ _ (access_9 room) (access_0 room)))
