-- The blocks of a row, each behind its length in 4 bytes, most significant first. Assumes nothing.
use Rattle.std.specs.Prelude.{ℕ, ◌+◌, ◌≤◌, ◌≡◌, ◌≢◌, List, [], length, take, drop, Option, Some, None, Result, Ok, Err}
use Rattle.std.specs.Int.{w32, from_be_bytes}
use Rattle.std.specs.Borrow.{Bor}
use Rattle.blocks.specs.declared.Short.{Short}

-- the length that a row begins with
abbrev pub block_length : List ℕ → ℕ
block_length row = from_be_bytes w32 (take 4 row)

-- the row has all of the block in front
unfoldable pub HasBlock : List ℕ → Type 0
HasBlock row = (4 ≤ length row) × (4 + block_length row ≤ length row)

-- the row has all of the block in front, and the rest of it comes behind
unfoldable pub Begins : List ℕ → List ℕ → List ℕ → Type 0
Begins row block rest =
    HasBlock row × (block ≡ take (block_length row) (drop 4 row)) × (rest ≡ drop (block_length row) (drop 4 row))

-- what comes next of a row, and what is then left of it: nothing at its end; the block in front, and the row behind it; or that the row is
-- short, and then nothing is left
abbrev pub Next : List ℕ → Option (Result (Bor (List ℕ)) Short) → List ℕ → Type 0
Next row None rest = (row ≡ []) × (rest ≡ [])
Next row (Some (Ok block)) rest = Begins row block.now rest
Next row (Some (Err short)) rest = (row ≢ []) × (¬ (HasBlock row)) × (rest ≡ [])
