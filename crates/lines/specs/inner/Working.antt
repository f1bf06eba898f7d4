-- The frame on a line, as the code holds it: its row of the table.
-- Assumes nothing.
use Rattle.std.specs.Prelude.{ℕ, ◌≤◌, ◌<◌, ◌≡◌, false, List, Some, length}
use Rattle.lines.specs.declared.frames.Frame.{Frame}
use Rattle.lines.specs.declared.frames.Span.{Span}
use Rattle.text.specs.Text.{byte}
use Rattle.text.specs.Positions.{bytes_at, end_at}
use Rattle.lines.specs.Frames.{outside, frame_of}

-- a frame's row of the table, where the frame is as long as that asks
pub record IsRow (bytes : List ℕ) (row : Frame) : Type 0 where
  pub found : frame_of (byte 0 bytes) ≡ Some row
  pub long : row.least ≤ length bytes
  pub short : length bytes ≤ row.most

-- the row of the frame at a position, which is allowed there: the line is there, and so is its line feed
pub record Framing (s : List ℕ) (span : Span) (at : ℕ) (row : Frame) : Type 0 where
  pub here : at < length s
  pub inside : end_at s at < length s
  pub allowed : outside span row.section ≡ false
  pub is_row : IsRow (bytes_at s at) row
