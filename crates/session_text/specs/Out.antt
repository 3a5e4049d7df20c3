-- What a method that puts bytes leaves of the buffer and its place.
use Rattle.std.specs.Prelude.{ℕ, ◌≡◌, List}
use Rattle.session_text.specs.Text.{Put}
use Rattle.session_text.specs.declared.Out.{Out}

pub record Puts (most : ℕ) (old new : Out) (bytes : List ℕ) : Type 0 where
  pub put : Put most old.buffer.now old.at bytes new.buffer.now new.at
  pub same : new.buffer.ghost_name ≡ old.buffer.ghost_name
