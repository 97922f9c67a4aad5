-- A field that may not be there. Assumes nothing.
use Rattle.std.specs.Prelude.{ℕ, ◌+◌, ◌*◌, cond, ◌&&◌, List, leb, length, Option, Some, None}
use Rattle.rules.specs.Table.{field_at}

-- the field, if it has at most 32 bits and they are all there
abbrev pub field_or_end : List ℕ → ℕ → ℕ → Option ℕ
field_or_end s at width = cond (leb width 32 && leb (at + width) (8 * length s)) (Some (field_at s at width)) None
