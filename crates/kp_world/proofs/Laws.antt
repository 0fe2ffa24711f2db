-- The laws, of every history.
use Rattle.kp_world.specs.Book.{Book, empty_book}
use Rattle.kp_world.specs.Moves.{after_moves, book_of}
use Rattle.kp_world.specs.Laws.{OneWinner, OneLeader, LeaderAppendsOnly, LeaderKeepsItsLog, LogsMatch, LaterLeadersHaveIt, EarlierLeadersHaveIt, CommittedBeginAlike, OneEntryAPlace, CommittedForGood}
use Rattle.std.proofs.Common.{◌≡◌, ℕ, ◌++◌, refl, sym, subst, arith}
use Rattle.kp_world.proofs.Histories.{moments, after_both, allowed_later}
use Rattle.kp_world.proofs.LeadersLogs.{moves_leave}
use Rattle.kp_world.proofs.Safety.{winners_same, leader_has, leader_had, committed_grows, committed_alike, same_entry, logs_match}

pub one_winner : OneWinner
one_winner n ms later may t c d some p q = winners_same n (book_of ms) (book_of (ms ++ later)) t c d (moments n ms later may).since some p q

pub one_leader : OneLeader
one_leader n ms later may t some = ((moments n ms later may).earlier.leader_votes t some, (moments n ms later may).since.leader t some)

pub leader_appends_only : LeaderAppendsOnly
leader_appends_only n ms later may t = (moments n ms later may).since.leader_log t

pub leader_keeps_its_log : LeaderKeepsItsLog
leader_keeps_its_log n ms later may t leads same now =
    let whole : book_of (ms ++ later) ≡ after_moves (book_of ms) later = after_both empty_book ms later in
    let c : ℕ = (book_of ms).leader t in
    subst (λ (d : Book). d.log c ≡ d.leader_log t) (sym whole) (moves_leave n (book_of ms) later t c (moments n ms later may).earlier (allowed_later n empty_book ms later may) leads refl same (subst (λ (d : Book). d.term c ≡ t) whole now))

pub logs_match_law : LogsMatch
logs_match_law n ms later may j k i e f at there is = logs_match n (book_of ms) (book_of (ms ++ later)) j k i e f (moments n ms later may) at there is

pub later_leaders_have_it : LaterLeadersHaveIt
later_leaders_have_it n ms later may t u p less c some = leader_has n (book_of (ms ++ later)) t u p (moments n ms later may).later (committed_grows n (book_of ms) (book_of (ms ++ later)) t p (moments n ms later may).since c) (omega arith) some

pub earlier_leaders_have_it : EarlierLeadersHaveIt
earlier_leaders_have_it n ms later may t u p less c some = leader_had n (book_of ms) (book_of (ms ++ later)) t u p (moments n ms later may) c less some

pub committed_begin_alike : CommittedBeginAlike
committed_begin_alike n ms later may t u p q c d = committed_alike n (book_of (ms ++ later)) t u p q (moments n ms later may).later (committed_grows n (book_of ms) (book_of (ms ++ later)) t p (moments n ms later may).since c) d

pub one_entry_a_place : OneEntryAPlace
one_entry_a_place n ms later may t u i p q e f c d at there = same_entry p q i e f (committed_begin_alike n ms later may t u p q c d) at there

pub committed_for_good : CommittedForGood
committed_for_good n ms later may t p c = committed_grows n (book_of ms) (book_of (ms ++ later)) t p (moments n ms later may).since c
