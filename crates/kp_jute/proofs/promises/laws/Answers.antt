use Rattle.kp_jute.proofs.Numbers.{ints_lawful, longs_lawful, unsigned_ints_lawful, unsigned_longs_lawful, raws_lawful, booleans_lawful}
use Rattle.kp_jute.proofs.Combined.{both_lawful}
use Rattle.kp_jute.proofs.Lengths.{counts_lawful, buffers_lawful, texts_lawful, vectors_lawful}
use Rattle.kp_jute.proofs.EndMarks.{untils_lawful}
use Rattle.kp_jute.specs.Form.{◌⊗◌, if_any, remains}
use Rattle.kp_jute.specs.Jute.{ints, texts, booleans, counts, number, int_or_text}
use Rattle.kp_jute.proofs.AtEnd.{at_end, both_at_end, if_any_at_end, booleans_long, remains_at_end, is_found_in, whole_again}
use Rattle.kp_jute.proofs.Cases.{present_lawful, tagged_lawful, fixed_ints_lawful, fixed_booleans_lawful}
use Rattle.kp_jute.proofs.Packets.{packets_lawful}
use Rattle.std.proofs.Common.{true, false, arith}
use Rattle.kp_jute.proofs.promises.laws.Goals as goal

pub returns-clause-int : goal.returns-clause-int
returns-clause-int c = ints_lawful

pub returns-clause-long : goal.returns-clause-long
returns-clause-long c = longs_lawful

pub returns-clause-boolean : goal.returns-clause-boolean
returns-clause-boolean c = booleans_lawful

pub returns-clause-count : goal.returns-clause-count
returns-clause-count c = counts_lawful

pub returns-clause-buffer : goal.returns-clause-buffer
returns-clause-buffer c = buffers_lawful

pub returns-clause-ustring : goal.returns-clause-ustring
returns-clause-ustring c = texts_lawful

pub returns-clause-vector : goal.returns-clause-vector
returns-clause-vector c = vectors_lawful texts texts_lawful

pub returns-clause-fields : goal.returns-clause-fields
returns-clause-fields c = both_lawful ints texts ints_lawful texts_lawful

pub returns-clause-marked : goal.returns-clause-marked
unfolding number
returns-clause-marked c = untils_lawful counts (λ a. omega arith) counts_lawful

pub returns-clause-unsigned_int : goal.returns-clause-unsigned_int
returns-clause-unsigned_int c = unsigned_ints_lawful

pub returns-clause-unsigned_long : goal.returns-clause-unsigned_long
returns-clause-unsigned_long c = unsigned_longs_lawful

pub returns-clause-raw : goal.returns-clause-raw
returns-clause-raw c = raws_lawful

pub returns-clause-never_null : goal.returns-clause-never_null
returns-clause-never_null c = present_lawful texts texts_lawful

pub returns-clause-one_int : goal.returns-clause-one_int
returns-clause-one_int c = fixed_ints_lawful

pub returns-clause-one_boolean : goal.returns-clause-one_boolean
returns-clause-one_boolean c = fixed_booleans_lawful

pub returns-clause-case : goal.returns-clause-case
returns-clause-case c = tagged_lawful booleans int_or_text booleans_lawful (elim [ true ↦ ints_lawful | false ↦ texts_lawful ])

pub returns-clause-at_end : goal.returns-clause-at_end
returns-clause-at_end c = both_at_end ints (if_any booleans) ints_lawful (if_any_at_end booleans booleans_long (at_end booleans booleans_lawful))

pub returns-clause-rest : goal.returns-clause-rest
returns-clause-rest c = both_at_end ints remains ints_lawful remains_at_end

pub returns-clause-packet : goal.returns-clause-packet
returns-clause-packet c = packets_lawful (ints ⊗ remains) (both_at_end ints remains ints_lawful remains_at_end)

pub returns-clause-found : goal.returns-clause-found
returns-clause-found c = λ bytes fits. is_found_in texts (at_end texts texts_lawful) bytes fits

pub returns-clause-again : goal.returns-clause-again
returns-clause-again c = λ v fits. whole_again texts (at_end texts texts_lawful) v fits
