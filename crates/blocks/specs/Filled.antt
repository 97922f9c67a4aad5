-- A buffer that is filled from the front. Assumes nothing.
use Rattle.std.specs.Prelude.{ℕ, ◌<◌, List, length, take, Option}
use Rattle.std.specs.Io.KnownBytes.{Consumes}

-- what was consumed stands in front of the buffer, and the buffer has room for more
unfoldable pub FilledInPart : Option (List ℕ) → Option (List ℕ) → List ℕ → Type 0
FilledInPart old new buf = (n : ℕ) × (n < length buf) × Consumes old new (take n buf)
