-- No text is longer than is claimed: the lines of the records by their number and their digits, and those of the board.
use Rattle.std.specs.Prelude.{Some, None, Ok, Err, if◌then◌else◌}
use Prim.Native.Nat.{ℕ, zero, suc, ◌+◌, ◌*◌, ◌^◌, ◌<◌, ◌≤◌}
use mathlib.Core.Path.{◌≡◌, refl}
use mathlib.Core.List.Memᴰ
use mathlib.Core.List.{List, [], ◌∷◌}
use mathlib.Core.Bool.{Bool, true, false, not, ◌&&◌}
use lib.ListN.{length, take, drop, length-drop, length-append}
use native.Mathlib.Nat.{pow-suc}
use native.Mathlib.Omega.{arith}
use borrow.Author.Tests.{ltb-false}
use Rattle.memory.specs.declared.Sizes.{Sizes}
use Rattle.memory.specs.Pieces.{Memory, most_words, top_version}
use Rattle.memory.specs.Sound.{within, sizes_ok, lengths_ok}
use Rattle.memory.specs.Numbers.{Reply}
use Rattle.memory.specs.Requests.{open_board}
use Rattle.memory.proofs.Tools.{if_cases, in_take, in_drop}
use Rattle.memory.proofs.Promises.{every_claim}
use Rattle.session_fields.specs.Fields.{body_length, little_endian, number_at}
use Rattle.session_fields.specs.Fields as fields
use Rattle.session_split.specs.Session as file
use Rattle.session_split.specs.Session.{Split, number_of, most_bytes, record_length, too_long, split, following, Session, piece, onward, split_all, session}
use Rattle.session_marks.specs.declared.Kind.{Kind}
use Rattle.session_marks.specs.declared.Kind.TheVariants.{Open, Start, Commit, Abort, Wait, Step, Read, Write}
use Rattle.session_split.specs.declared.Fault.{Fault}
use Rattle.session_split.specs.declared.Fault.TheVariants.{UnknownMark, CutShort, Misplaced, TooLong}
use Rattle.session_split.proofs.Cases.{there}
use Rattle.session_text.specs.Text.{line}
use Rattle.session_text.proofs.Laws.{line-length}
use Rattle.session_ask.specs.Asking.{requested}
use Rattle.session_show.specs.Showing.{word_lines}
use Rattle.session_show.proofs.Short.{lines_short}
use Rattle.session_run.specs.Run.{Run, runs, over, stops, run, run_on}
use Rattle.session_print.specs.Print.{sizes_asked, first_asked, lent, printed, text}
use Rattle.session_play.specs.Claims.{Bytes, ran, TextIsShort}
use Rattle.session_play.proofs.Values.{Values, opened_values, logical-value, Few, few, call_few}
use Rattle.session_play.proofs.Reaches.{board_is_sound}

-- The bytes ------------------------------------------------------------------------------------------------------------------------------

number_fits : (width : ℕ) (bytes : List ℕ) → Bytes bytes → little_endian (take width bytes) < 256 ^ width
unfolding little_endian
number_fits zero bytes all = omega arith
number_fits (suc width) [] all = rw pow-suc (omega (arith, number_fits width [] all))
number_fits (suc width) (b ∷ bytes) all =
    rw pow-suc (omega (arith, all b (Memᴰ.head refl), number_fits width bytes (λ x h. all x (Memᴰ.tail h))))

value-fits : (bytes : List ℕ) → Bytes bytes → fields.value bytes < 2 ^ 32
unfolding number_at
value-fits bytes all = omega (arith, number_fits 4 (drop 3 bytes) (λ x h. all x (in_drop 3 bytes h)))

-- a record has three bytes at least
three : (k : Kind) → 3 ≤ record_length k
three Open = omega arith
three Start = omega arith
three Commit = omega arith
three Abort = omega arith
three Wait = omega arith
three Step = omega arith
three Read = omega arith
three Write = omega arith

-- a refusal has a number of two digits
refused_few : (f : Fault) → number_of f < 100
refused_few UnknownMark = omega arith
refused_few CutShort = omega arith
refused_few Misplaced = omega arith
refused_few TooLong = omega arith

-- The records ----------------------------------------------------------------------------------------------------------------------------

module _ (z : Sizes) (v : ℕ) where
  opens_few : (m : Memory) → Values m → Few (open_board z v m)
  unfolding open_board
  opens_few m h =
      if_cases Few (not (sizes_ok z && within 1 top_version v)) _ _ (λ bad. few 2 m (omega arith) h) (λ good.
      if_cases Few (not (lengths_ok z m)) _ _ (λ other. few 1 m (omega arith) h) (λ fit.
      few 0 _ (omega arith) (opened_values z v)))

  asked_few : (m : Memory) (k : Kind) (b : List ℕ) → Values m → Bytes b → Few (requested z v m k b)
  unfolding requested
  asked_few m Open b h all = opens_few m h
  asked_few m Start b h all = call_few z m h _ tt
  asked_few m Commit b h all = call_few z m h _ tt
  asked_few m Abort b h all = call_few z m h _ tt
  asked_few m Wait b h all = call_few z m h _ tt
  asked_few m Step b h all = call_few z m h _ tt
  asked_few m Read b h all = call_few z m h _ tt
  asked_few m Write b h all = call_few z m h _ (value-fits b all)

  -- the lines from an index on, and the board that is left
  record Short (i : ℕ) (r : Run) : Type 0 where
    lines : length r.lines + 20 * i ≤ 20 * 20001
    board : Values r.board

  ends_short : (i : ℕ) (m : Memory) (e : Split) → i ≤ 20000 → Values m → Short i (over i m e)
  ends_short i m (Ok (Some k)) h held = record { lines = omega arith; board = held }
  ends_short i m (Err f) h held = record { lines = omega (arith, line-length 4 1 0 {a = i} {b = number_of f} {c = 0} (omega arith) (omega (arith, refused_few f)) (omega arith)); board = held }
  ends_short i m (Ok None) h held = record { lines = omega arith; board = held }

  -- one record, and what comes after it
  module _ (i : ℕ) (m : Memory) (b : List ℕ) (k : Kind) (values : Values m) (all : Bytes b) (h : i < 20000) where
    abbrev r : Reply
    r = requested z v m k b

    one_short : (rest : Session) → ((m' : Memory) → Values m' → Short (suc i) (run z v (suc i) m' rest.pieces rest.ended))
        → Short i (run z v i m (piece k b ∷ rest.pieces) rest.ended)
    unfolding run
    one_short rest on = record { lines = rw (length-append (line i r.number r.value) _) (omega (arith, here, more.lines)); board = more.board }
      where
        answers : Few r
        answers = asked_few m k b values all

        here : length (line i r.number r.value) ≤ 20
        here = line-length 4 1 9 (omega arith) (omega (arith, answers.number)) (omega (arith, answers.value))

        more : Short (suc i) (if stops r.number then runs [] false r.after else run z v (suc i) r.after rest.pieces rest.ended)
        more = if_cases (Short (suc i)) (stops r.number) _ _ (λ stop. record { lines = omega arith; board = answers.after }) (λ go. on r.after answers.after)

  -- all of them: three bytes and more went to each record that was split off
  run_short : (n : ℕ) (first : Bool) (bytes : List ℕ) (i : ℕ) (m : Memory) → Values m → Bytes bytes → i ≤ 20000
      → (too_long first (length bytes) ≡ false → 3 * i + length bytes ≤ most_bytes)
      → let s = split_all n first bytes in Short i (run z v i m s.pieces s.ended)
  unfolding split_all run following file.body
  run_short zero first bytes i m values all h fits = ends_short i m (split first bytes) h values
  run_short (suc n) first bytes i m values all h fits =
      go (split first bytes) refl (λ k used m' w.
      run_short n false (following k bytes) (suc i) m' w (λ x j. all x (in_drop (record_length k) bytes j)) (omega (arith, used)) (λ e. used))
    where
      rest : Kind → Session
      rest k = split_all n false (following k bytes)

      go : (e : Split) → split first bytes ≡ e
          → ((k : Kind) → 3 * suc i + length (following k bytes) ≤ most_bytes → (m' : Memory) → Values m' → Short (suc i) (run z v (suc i) m' (rest k).pieces (rest k).ended))
          → let s = onward bytes e rest in Short i (run z v i m s.pieces s.ended)
      go (Err f) q on = ends_short i m (Err f) h values
      go (Ok None) q on = ends_short i m (Ok None) h values
      go (Ok (Some k)) q on =
          let w = there first bytes k q in
          let used : 3 * suc i + length (following k bytes) ≤ most_bytes = omega (arith, w.whole, fits w.fits, three k, length-drop (record_length k) bytes) in
          one_short i m (file.body k bytes) k values (λ x j. all x (in_drop 2 bytes (in_take (body_length k) (drop 2 bytes) j))) (omega (arith, used)) (rest k) (on k used)

-- The whole text -------------------------------------------------------------------------------------------------------------------------

module _ (bytes : List ℕ) (all : Bytes bytes) where
  abbrev z : Sizes
  z = sizes_asked bytes

  abbrev v : ℕ
  v = first_asked bytes

  records_short : Short z v 0 (ran bytes)
  unfolding run_on session
  records_short = run_short z v (length bytes) true bytes 0 (lent z) (opened_values z 0) all (omega arith) (λ e. omega (arith, ltb-false most_bytes (length bytes) e))

  board_short : length (if (ran bytes).whole then word_lines z v (ran bytes).board z.words else []) ≤ 29 * most_words
  board_short =
      if_cases (λ (l : List ℕ). length l ≤ 29 * most_words) (ran bytes).whole _ _ (λ whole.
      let ok = board_is_sound bytes whole in
      omega (arith, lines_short z (ran bytes).board ok v (logical-value z (ran bytes).board records_short.board) z.words (omega arith), ((every_claim.sound_means z (ran bytes).board).0 ok).words.1))
      (λ stopped. omega arith)

pub short : TextIsShort
unfolding text printed
short bytes all = rw (length-append (ran bytes).lines _) (omega (arith, (records_short bytes all).lines, board_short bytes all))
