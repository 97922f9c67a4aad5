-- The proved list: the rules say what document 01 has for case L and for each case marked P; and, in a list of its own, what they
-- should for a small network for each slip. By computation, on the definitions alone. Assumes nothing.
use mathlib.Core.List.{List, map}
use mathlib.Core.Path.{◌≡◌, refl}
use lib.Count.{ones_in, count_leading_zeros}
use Rattle.rules.specs.Lists.{tab_from, tab, joined, last_of, total, count, every, lowest}
use Rattle.rules.specs.Kinds.{sum, difference, smaller, larger, quotient, ones, first_beam, inputs, result, constant_ok}
use Rattle.rules.specs.Network.{counts_ok, node_ok, channel_ok, capacities, ports_ok}
use Rattle.rules.specs.Table.{field_at, header_at, node_at, node_piece, nodes_up_to, channel_at, token_piece, tokens_up_to, with_channel, channel_piece, channels_up_to, ends_at, faulty_node, network}
use Rattle.rules.specs.Instant.{at_start, arriving, written, keeping, after_writes, out_words, ready, goes_ahead, input_at, result_of, waiting_after, held_after, after_reads, judged, instant, onward, reached}
use Rattle.rules.specs.Refusals.{check, arrival_faulty, faulty_arrival, allowed, run_from, run}
use Rattle.rules.specs.Listing.{framed, digits, decimal, signed_decimal, line, word_line, last_line, lines, listing}
use Rattle.rules.specs.Bench.{Case, answer, bench, slips}

-- the rules' answers to the cases are those that the cases have
abbrev AsSaid : List Case → Type 0
AsSaid cases = map (λ case. answer case.asked) cases ≡ map (λ case. case.said) cases

pub proved : AsSaid bench × AsSaid slips
unfolding ones_in count_leading_zeros tab_from tab joined last_of total count every lowest sum difference smaller larger quotient ones first_beam inputs result constant_ok counts_ok node_ok channel_ok capacities ports_ok field_at header_at node_at node_piece nodes_up_to channel_at token_piece tokens_up_to with_channel channel_piece channels_up_to ends_at faulty_node network at_start arriving written keeping after_writes out_words ready goes_ahead input_at result_of waiting_after held_after after_reads judged instant onward reached check arrival_faulty faulty_arrival allowed run_from run framed digits decimal signed_decimal line word_line last_line lines listing answer
proved = (refl, refl)
