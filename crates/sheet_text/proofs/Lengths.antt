-- How long the session of a text is: what the reader counts is what it has put out.
use Rattle.std.specs.Prelude.{Option, None, Some, if◌then◌else◌}
use Prim.Native.Nat.{ℕ, ◌+◌}
use mathlib.Core.Path.{◌≡◌, refl}
use mathlib.Core.List.{List, [], ◌∷◌}
use mathlib.Core.Bool.{Bool, true, false}
use lib.Dec.{ltb}
use lib.ListN.{length, length-append}
use native.Mathlib.Omega.{arith}
use Rattle.memory.proofs.Tools.{if_cases}
use Rattle.std.specs.Option.{is_none}
use Rattle.session_split.specs.Session.{most_bytes}
use Rattle.sheet_text.specs.Answer.{TextFault}
use Rattle.sheet_text.specs.Turn.{Turn, Content, Beside, FieldEnds, LineEnds, Stray, turn, ending}
use Rattle.sheet_text.specs.Line.{Line, verdict, field_ended, field_bytes}
use Rattle.sheet_text.specs.Read.{Reader, ended_by, line_ended, act, act_bytes, step, step_bytes, feed, feed_bytes, finish, finish_bytes, begin, read_of, session_of}

-- the end of a line puts nothing out
pub length-line_ended : (l : Line) (n i : ℕ) → (line_ended l n i).length ≡ n
unfolding line_ended
length-line_ended l n i = go (verdict l)
  where
    go : (v : Option TextFault) → (ended_by v l n i).length ≡ n
    go (Some f) = refl
    go None = if_cases (λ (r : Reader). r.length ≡ n) (ltb most_bytes n) _ _ (λ _. refl) (λ _. refl)

pub length-act : (r : Reader) (t : Turn) (b : ℕ) → (act r t b).length ≡ r.length + length (act_bytes r t)
length-act r (Content s) b = omega arith
length-act r (Beside s) b = omega arith
length-act r FieldEnds b = refl
length-act r LineEnds b = length-line_ended (field_ended r.line) (r.length + length (field_bytes r.line)) r.lines
length-act r Stray b = omega arith

-- two branches of one test
pub if_both : {A B : Type 0} (P : A → B → Type 0) (b : Bool) (x y : A) (u v : B)
    → (b ≡ true → P x u) → (b ≡ false → P y v) → P (if b then x else y) (if b then u else v)
if_both P true x y u v f g = f refl
if_both P false x y u v f g = g refl

-- a byte, and the end of the text, unless the text was refused before
length_unless : (r : Reader) (t : Turn) (b : ℕ) (good : Bool)
    → (if good then act r t b else r).length ≡ r.length + length (if good then act_bytes r t else [])
length_unless r t b good =
    if_both (λ x bytes. x.length ≡ r.length + length bytes) good (act r t b) r (act_bytes r t) [] (λ _. length-act r t b) (λ _. omega arith)

pub length-step : (r : Reader) (b : ℕ) → (step r b).length ≡ r.length + length (step_bytes r b)
unfolding step step_bytes
length-step r b = length_unless r (turn r.spot b) b (is_none r.fault)

pub length-finish : (r : Reader) → (finish r).length ≡ r.length + length (finish_bytes r)
unfolding finish finish_bytes
length-finish r = length_unless r (ending r.spot r.line.fields) 0 (is_none r.fault)

pub length-feed : (r : Reader) (text : List ℕ) → (feed r text).length ≡ r.length + length (feed_bytes r text)
unfolding feed feed_bytes
length-feed r [] = omega arith
length-feed r (b ∷ bs) =
    simp length-append (omega (arith, length-step r b, length-feed (step r b) bs))

pub length-read : (text : List ℕ) → (read_of text).length ≡ length (session_of text)
unfolding read_of session_of
length-read text = simp length-append (omega (arith, length-finish (feed begin text), length-feed begin text))
