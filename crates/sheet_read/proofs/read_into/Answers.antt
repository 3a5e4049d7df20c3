-- `sheet_read::read_into` meets its contract: a text is its bytes and its end.
use Prim.Native.Nat.{ℕ}
use mathlib.Core.Path.{◌≡◌, ap, ◌∙◌}
use mathlib.Core.List.{List}
use Rattle.session_text.specs.Text.{stored}
use Rattle.sheet_text.specs.Read.{Reader, begin, feed, feed_bytes, finish, finish_bytes, known, read_of, session_of}
use Rattle.sheet_text.proofs.Lengths.{length-feed}
use Rattle.sheet_read.proofs.After.{stored-after}
use Rattle.sheet_read.proofs.read_into.Goals as goal

-- what the bytes put, and then what the end puts
whole : (text out mid left : List ℕ) (first r last : Reader)
    → first ≡ begin
    → (r ≡ feed first text) × (mid ≡ stored out first.length (feed_bytes first text))
    → (last ≡ finish r) × (left ≡ stored mid r.length (finish_bytes r))
    → (last ≡ read_of text) × (left ≡ stored out 0 (session_of text))
unfolding read_of session_of
whole text out mid left first r last from (is, puts) (ends, holds) =
    let fed = feed begin text in
    (cc, cc (stored-after out 0 fed.length (feed_bytes begin text) (finish_bytes fed) (length-feed begin text)))

pub returns : goal.returns
returns c =
    let w = whole _ _ _ _ _ _ _ c.begin.ensures c.feed.ensures c.finish.ensures in
    (c.known.ensures ∙ ap known w.0, w.1)
