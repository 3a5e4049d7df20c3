-- The board that a session leaves is reached after its opening by the calls of its other records.
use Rattle.std.specs.Prelude.{Option, Some, None, Ok, Err, if◌then◌else◌}
use Prim.Native.Nat.{ℕ, suc}
use mathlib.Core.Path.{◌≡◌, refl, sym}
use mathlib.Core.List.{List, [], ◌∷◌}
use mathlib.Core.Bool.{Bool, true, false, false≢true}
use lib.Dec.{eqb}
use Rattle.memory.specs.declared.Sizes.{Sizes}
use Rattle.memory.specs.Pieces.{Memory}
use Rattle.memory.specs.Sound.{sound}
use Rattle.memory.specs.Numbers.{Reply, reply}
use Rattle.memory.specs.Requests.{opened, open_board}
use Rattle.memory.specs.declared.Call.{Call}
use Rattle.memory.specs.Calls.{call}
use Rattle.memory.specs.History as history
use Rattle.memory.specs.History.{Event, Scene, scene, nothing, next}
use Rattle.memory.specs.History.Event.{request, opening}
use Rattle.memory.proofs.Tools.{if_cases}
use Rattle.memory.proofs.Promises.{every_claim}
use Rattle.session_split.specs.Session.{Split, Piece, Session}
use Rattle.session_split.proofs.Cases.{session_cases}
use Rattle.session_play.specs.Claims.{ran, Reached, PlayedIsReached}
use Rattle.session_ask.specs.Asking.{asked_of, answered, requested}
use Rattle.session_run.specs.Run.{Run, runs, over, run, stops, run_on}
use Rattle.session_print.specs.Print.{sizes_asked, first_asked, lent}
use Rattle.session_print.proofs.Lent.{opening_cases, lent_serves}

-- what a record asks, as an event of the history
abbrev event_of : Sizes → ℕ → Option Call → Event
event_of z v None = opening z v
event_of z v (Some c) = request c

-- a scene on a board of these sizes and this first version
record On (z : Sizes) (v : ℕ) (m : Memory) (s : Scene) : Type 0 where
  sizes : s.sizes ≡ z
  first : s.first ≡ v
  memory : s.memory ≡ m

module _ (z : Sizes) (v : ℕ) where
  -- each record leads to such a scene again
  asked_one : (m : Memory) (s : Scene) (c : Call) → On z v m s → On z v (call z m c).after (next s (request c))
  asked_one m s c on = record { sizes = on.sizes; first = on.first; memory = rw (on.sizes, on.memory) }

  opened_one : (m : Memory) (s : Scene) → On z v m s → On z v (open_board z v m).after (next s (opening z v))
  opened_one m s on =
      if_cases (On z v (open_board z v m).after) (eqb (open_board z v s.memory).number 0) _ _
      (λ done. record { sizes = refl; first = refl; memory = rw on.memory })
      (λ refused. record { sizes = on.sizes; first = on.first; memory = rw on.memory })

  after_one : (m : Memory) (s : Scene) (a : Option Call) → On z v m s → On z v (answered z v m a).after (next s (event_of z v a))
  after_one m s None on = opened_one m s on
  after_one m s (Some c) on = asked_one m s c on

  -- so do all of them, if none stops the player
  record Leads (s : Scene) (m : Memory) : Type 0 where
    events : List Event
    on : On z v m (history.ran s events)

  at_the_end : (i : ℕ) (m : Memory) (e : Split) (s : Scene) → On z v m s → (over i m e).whole ≡ true → Leads s (over i m e).board
  at_the_end i m (Ok (Some k)) s on w = record { events = []; on = on }
  at_the_end i m (Err f) s on w = record { events = []; on = on }
  at_the_end i m (Ok None) s on w = record { events = []; on = on }

  after_all : (i : ℕ) (m : Memory) (ps : List Piece) (e : Split) (s : Scene) → On z v m s → (run z v i m ps e).whole ≡ true → Leads s (run z v i m ps e).board
  unfolding run requested
  after_all i m [] e s on w = at_the_end i m e s on w
  after_all i m (p ∷ ps) e s on w =
      let r = requested z v m p.kind p.body in
      go (stops r.number) w (λ rest. after_all (suc i) r.after ps e _ (after_one m s (asked_of p.kind p.body) on) rest)
    where
      r : Reply
      r = requested z v m p.kind p.body

      one : Event
      one = event_of z v (asked_of p.kind p.body)

      more : Run
      more = run z v (suc i) r.after ps e

      go : (b : Bool) → (if b then runs [] false r.after else more).whole ≡ true → (more.whole ≡ true → Leads (next s one) more.board)
          → Leads s (if b then runs [] false r.after else more).board
      go true no_more leads = absurd (false≢true no_more)
      go false rest leads = record { events = one ∷ (leads rest).events; on = (leads rest).on }

  -- the opening answered 0, and the others follow
  abbrev opens : Session → Reply → Run
  opens rest r = if stops r.number then runs [] false r.after else run z v 1 r.after rest.pieces rest.ended

  from-opening : (rest : Session) → (opens rest (open_board z v (lent z))).whole ≡ true → Reached z v (opens rest (open_board z v (lent z))).board
  from-opening rest =
      opening_cases z v (lent z) (λ ok. lent_serves z 0)
      (λ r. r ≡ open_board z v (lent z) → (opens rest r).whole ≡ true → Reached z v (opens rest r).board)
      (λ bad is w. absurd (false≢true w))
      (λ good is w. leads (sym is) (after_all 1 (opened z v) rest.pieces rest.ended (scene z v (opened z v) nothing) (record { sizes = refl; first = refl; memory = refl }) w))
      refl
    where
      leads : {m : Memory} → open_board z v (lent z) ≡ reply 0 0 (opened z v) → Leads (scene z v (opened z v) nothing) m → Reached z v m
      leads is l =
          record {
            opens = rw is;
            events = l.events;
            sizes = rw is l.on.sizes;
            first = rw is l.on.first;
            memory = rw is l.on.memory;
          }

-- a session that is played to its end: its opening answered 0, and its other records follow
pub played : PlayedIsReached
unfolding run_on run requested
played bytes =
    let z = sizes_asked bytes in
    let v = first_asked bytes in
    session_cases bytes (λ s. (run z v 0 (lent z) s.pieces s.ended).whole ≡ true → Reached z v (run z v 0 (lent z) s.pieces s.ended).board)
    (λ n l w. absurd (false≢true w))
    (λ rest. from-opening z v rest)

-- so the board that it leaves is sound
pub board_is_sound : (bytes : List ℕ) → (ran bytes).whole ≡ true → sound (sizes_asked bytes) (ran bytes).board ≡ true
board_is_sound bytes whole =
    let r = played bytes whole in
    let ok = every_claim.reached_is_sound (sizes_asked bytes) (first_asked bytes) (lent (sizes_asked bytes)) r.opens r.events in
    rw (r.sizes, r.memory) at ok
