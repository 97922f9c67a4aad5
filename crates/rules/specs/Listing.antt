-- The pole's listing program. Assumes nothing.
use Rattle.std.specs.Prelude.{ℕ, zero, suc, ◌+◌, ◌-◌, ◌*◌, ◌/◌, ◌%◌, Bool, cond, ◌&&◌, List, [], ◌∷◌, ◌++◌, map, eqb, leb, ltb, ℤ, pos, negsuc, length, take, drop}
use Rattle.rules.specs.Lists.{tab, joined}
use Rattle.rules.specs.Table.{field_at}
use Rattle.rules.specs.Instant.{channel_in, time_in, value_in}
use Rattle.rules.specs.Refusals.{Outcome, refused, stopped, ended, run, words_of}

-- the number of so many bytes from byte i on, most significant first
abbrev pub bytes_at : List ℕ → ℕ → ℕ → ℕ
bytes_at s i n = field_at s (8 * i) (8 * n)

-- standard input: table length (2 bytes), table, horizon (3 bytes), then arrivals of 8 bytes
abbrev pub table_length : List ℕ → ℕ
table_length s = bytes_at s 0 2

abbrev pub table_in : List ℕ → List ℕ
table_in s = take (table_length s) (drop 2 s)

abbrev pub horizon_in : List ℕ → ℕ
horizon_in s = bytes_at s (2 + table_length s) 3

-- the bytes behind the horizon
abbrev pub arrival_bytes : List ℕ → ℕ
arrival_bytes s = length s - (5 + table_length s)

abbrev pub arrivals_in : List ℕ → List ℕ
arrivals_in s = tab (arrival_bytes s / 8) (λ i. bytes_at s (5 + table_length s + 8 * i) 8)

-- the length is there and at most 8,191, the table and the horizon are there, and behind them are at most 2,048 whole arrivals
unfoldable pub framed : List ℕ → Bool
framed s =
    leb 2 (length s)
    && leb (table_length s) 8191
    && leb (5 + table_length s) (length s)
    && eqb (arrival_bytes s % 8) 0
    && leb (arrival_bytes s / 8) 2048

-- the decimal digits of a number of at most so many digits, without leading zeros
unfoldable pub digits : ℕ → ℕ → List ℕ
digits zero n = []
digits (suc most) n =
    let front = digits most (n / 10) in
    cond (ltb n 10) ((48 + n) ∷ []) (front ++ ((48 + n % 10) ∷ []))

-- a number in decimal: every number of 64 bits has at most 20 digits
unfoldable pub decimal : ℕ → List ℕ
decimal n = digits 20 n

-- a token in decimal, without plus sign
unfoldable pub signed_decimal : ℤ → List ℕ
signed_decimal (pos n) = decimal n
signed_decimal (negsuc n) = 45 ∷ decimal (suc n)

-- a line: parts with one blank between, and a line feed
unfoldable pub line : List (List ℕ) → List ℕ
line [] = 10 ∷ []
line (part ∷ []) = part ++ (10 ∷ [])
line (part ∷ next ∷ parts) = part ++ (32 ∷ line (next ∷ parts))

-- the words `end`, `stop` and `refused`
abbrev pub end_word : List ℕ
end_word = 101 ∷ 110 ∷ 100 ∷ []

abbrev pub stop_word : List ℕ
stop_word = 115 ∷ 116 ∷ 111 ∷ 112 ∷ []

abbrev pub refused_word : List ℕ
refused_word = 114 ∷ 101 ∷ 102 ∷ 117 ∷ 115 ∷ 101 ∷ 100 ∷ []

-- a word's line: time, channel and signed value
unfoldable pub word_line : ℕ → List ℕ
word_line w = line (decimal (time_in w) ∷ decimal (channel_in w) ∷ signed_decimal (value_in w) ∷ [])

-- the last line: `end` and the horizon, `stop` with number, instant and channel, or `refused` with number and place
unfoldable pub last_line : ℕ → Outcome → List ℕ
last_line horizon (refused number place) = line (refused_word ∷ decimal number ∷ decimal place ∷ [])
last_line horizon (stopped words number instant channel) =
    line (stop_word ∷ decimal number ∷ decimal instant ∷ decimal channel ∷ [])
last_line horizon (ended words) = line (end_word ∷ decimal horizon ∷ [])

-- a line for each word, and the last line
unfoldable pub lines : ℕ → Outcome → List ℕ
lines horizon o = joined (map word_line (words_of o)) ++ last_line horizon o

-- the whole listing of an input: 13 before all else; the output list has 2,048 words
unfoldable pub listing : List ℕ → List ℕ
listing s =
    let good = lines (horizon_in s) (run (table_in s) (horizon_in s) (arrivals_in s) 2048) in
    cond (framed s) good (last_line 0 (refused 13 0))
