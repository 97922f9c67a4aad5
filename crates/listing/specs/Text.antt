-- Bytes put into a text, and the parts of an input. Assumes nothing.
use Rattle.std.specs.Prelude.{ℕ, ◌+◌, ◌/◌, ◌<◌, ◌≤◌, List, [], ◌≡◌, length, drop, true, Result, Ok, Err}
use Rattle.std.proofs.lemmas.List.Edits.{sets}
use Rattle.rules.specs.declared.End.{End}
use Rattle.rules.specs.declared.Ran.{Ran}
use Rattle.rules.specs.declared.Refusal.{Refusal}
use Rattle.rules.specs.Refusals.{refused, stopped, ended, number_of, place_of}
use Rattle.rules.specs.Listing.{table_length, table_in, horizon_in, framed, last_line, listing}
use Rattle.listing.specs.declared.Text.{Text}
use Rattle.listing.specs.declared.Input.{Input}

-- the bytes stand at a place, with `end` behind them; what stands elsewhere stays
pub record Put (before : List ℕ) (at : ℕ) (bytes : List ℕ) (after : List ℕ) (end : ℕ) : Type 0 where
  pub behind : end ≡ at + length bytes
  pub text : after ≡ sets before at bytes

-- the bytes are put behind what was put before, into the same lent bytes, which are as many as before
pub record Puts (before : Text) (bytes : List ℕ) (after : Text) : Type 0 where
  pub same : after.bytes.ghost_name ≡ before.bytes.ghost_name
  pub size : length after.bytes.now ≡ length before.bytes.now
  pub put : Put before.bytes.now before.len bytes after.bytes.now after.len

-- so many bytes more fit
abbrev pub HasRoom : Text → ℕ → Type 0
HasRoom text more = text.len + more ≤ length text.bytes.now

-- the last line by how a run ends
unfoldable pub end_by : ℕ → End → List ℕ
end_by horizon End.Horizon = last_line horizon (ended [])
end_by horizon (End.Overfull instant channel) = last_line horizon (stopped [] 11 instant channel)
end_by horizon (End.NoRoom instant) = last_line horizon (stopped [] 12 instant 0)

-- the last line by a run's answer
unfoldable pub last_by : ℕ → Result Ran Refusal → List ℕ
last_by horizon (Ok ran) = end_by horizon ran.end
last_by horizon (Err why) = last_line horizon (refused (number_of why) (place_of why))

-- the parts of a well framed input
pub record Parts (s : List ℕ) (input : Input) : Type 0 where
  pub good : framed s ≡ true
  pub table : input.table.now ≡ table_in s
  pub horizon : input.horizon ≡ horizon_in s
  pub arrivals : input.arrivals.now ≡ drop (5 + table_length s) s
  pub few : length input.arrivals.now / 8 ≤ 2048

-- the size of a text that holds the longest listing: 2,048 lines of at most 25 bytes, and a last line of at most 64
abbrev pub size : ℕ
size = 51264

-- the whole listing stands in front, and the rest of the text stays; a text that is too short is not touched
pub record Listed (s before after : List ℕ) (end : ℕ) : Type 0 where
  pub short : length before < size → (end ≡ 0) × (after ≡ before)
  pub whole : size ≤ length before → Put before 0 (listing s) after end
