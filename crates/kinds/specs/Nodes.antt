-- A node's result and its state by the values of the code. Assumes nothing.
use Rattle.std.specs.Prelude.{ℕ, ◌+◌, cond, ℤ, ◌==◌, Option, Some, None, Result, Ok, Err}
use Rattle.std.proofs.Math.Option as Math
use Rattle.rules.specs.Kinds.{signed, pattern}
use Rattle.rules.specs.Instant.{Waiting}
use Rattle.kinds.specs.declared.Pending.{Pending}

-- the instant of what is never due
abbrev pub never : ℕ
never = 4294967295

-- what waits by a due instant and a value's bits
abbrev pub waiting_by : ℕ → ℕ → Math.Option Waiting
waiting_by due value = cond (due == never) Math.none (Math.some (record { due = due; value = signed value }))

-- an answer of the code, as the rules say it
abbrev pub said : {A : Type 0} → Option A → Math.Option A
said None = Math.none
said (Some x) = Math.some x

-- a node's state with its value by its bits
pub record Seen : Type 0 where
  pub next : ℕ
  pub due : ℕ
  pub value : ℕ

abbrev pub seen : Pending → Seen
seen p = record { next = p.next; due = p.due; value = pattern p.value }

-- a result, or what is kept where it is absent, as the rules say it
abbrev pub made_says : Result ℤ ℤ → Math.Option ℤ
made_says (Ok value) = Math.some value
made_says (Err kept) = Math.none

-- when a result is due, and what is kept of it: an absent one is never due
abbrev pub due_by : ℕ → Result ℤ ℤ → ℕ
due_by due (Ok value) = due
due_by due (Err kept) = never

abbrev pub value_of : Result ℤ ℤ → ℤ
value_of (Ok value) = value
value_of (Err kept) = kept

-- a node's state after a release that goes ahead
abbrev pub ahead_of : Pending → ℕ → ℕ → Result ℤ ℤ → Pending
ahead_of before period deadline made =
    record { next = before.next + period; due = due_by (before.next + deadline) made; value = value_of made }
