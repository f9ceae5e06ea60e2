-- Bytes laid into a buffer from a place on, and added to a text.
-- Assumes nothing.
use Rattle.std.specs.Prelude.{ℕ, ◌+◌, ◌≤◌, List, ◌++◌, ◌≡◌, length, take, drop}
use Rattle.script_digits.specs.declared.Text.{Text}

-- the buffer has room for the bytes from a place on
abbrev pub Room : ℕ → List ℕ → List ℕ → Type 0
Room at bytes buffer = at + length bytes ≤ length buffer

-- the bytes stand from a place on now, r is the place after them, and nothing else changed
pub record Laid (at : ℕ) (bytes : List ℕ) (r : ℕ) (before after : List ℕ) : Type 0 where
  pub room : Room at bytes before
  pub next : r ≡ at + length bytes
  pub same : after ≡ take at before ++ (bytes ++ drop (at + length bytes) before)

-- how many bytes the text's buffer still takes, at the least
abbrev pub Left : ℕ → Text → Type 0
Left n t = t.end + n ≤ length t.buffer.now

-- the second text is the first with the bytes after it, in the same buffer
pub record Added (bytes : List ℕ) (t u : Text) : Type 0 where
  pub list : u.buffer.ghost_name ≡ t.buffer.ghost_name
  pub laid : Laid t.end bytes u.end t.buffer.now u.buffer.now
