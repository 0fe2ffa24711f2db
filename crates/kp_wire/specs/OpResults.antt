-- The results of a multi: for each operation a mark and its reply, or a mark and its error, up to an end mark.
use Rattle.std.specs.Prelude.{ℕ, ℤ, pos, negsuc, Bool, true, false, List, [], ◌∷◌, Option, Some, None, option_map, Ok, if◌then◌else◌}
use Rattle.std.specs.Ordering.{int_eq}
use Rattle.kp_jute.specs.Form.{Reading, ◌>>=◌, Form, ◌⊗◌, seen, narrowed, present, tagged}
use Rattle.kp_jute.specs.Jute.{ints, booleans, texts, untils, fixed_ints, fixed_booleans}
use Rattle.kp_wire.specs.declared.stat.Stat.{Stat}
use Rattle.kp_wire.specs.declared.result.OpResult.{OpResult}
use Rattle.kp_wire.specs.declared.result.OpResult.TheVariants as result
use Rattle.kp_wire.specs.declared.op_kind.OpKind.{OpKind}
use Rattle.kp_wire.specs.declared.op_kind.OpKind.TheVariants as kinds
use Rattle.kp_wire.specs.declared.result.Mark.{Mark}
use Rattle.kp_wire.specs.declared.result.Mark.TheVariants as marks
use Rattle.kp_wire.specs.declared.result.Lead.{Lead}
use Rattle.kp_wire.specs.declared.result.Lead.TheVariants as leads
use Rattle.kp_wire.specs.Partly.{partly, nothing}
use Rattle.kp_wire.specs.Common.{stats, behind_all}
use Rattle.kp_wire.specs.OpKinds.{op_number, op_named}

-- ---- what an operation of a multi is answered

-- what the reply of an operation holds
abbrev pub OpHeld : OpKind → Type 0
OpHeld kinds.Create = List ℕ
OpHeld kinds.Delete = Unit {0}
OpHeld kinds.SetData = Stat
OpHeld kinds.Check = Unit {0}
OpHeld kinds.Create2 = List ℕ × Stat

-- and its form
abbrev pub op_bodies : (k : OpKind) → Form (OpHeld k)
op_bodies kinds.Create = present texts
op_bodies kinds.Delete = nothing
op_bodies kinds.SetData = stats
op_bodies kinds.Check = nothing
op_bodies kinds.Create2 = present texts ⊗ stats

-- a result and the number of its operation's type
abbrev pub Answered : Type 0
Answered = ℤ × OpResult

-- the result that holds it
abbrev pub op_result : (k : OpKind) → OpHeld k → OpResult
op_result kinds.Create path = result.Path path
op_result kinds.Delete u = result.Empty
op_result kinds.SetData stat = result.Stat stat
op_result kinds.Check u = result.Empty
op_result kinds.Create2 made = result.PathStat made.0 made.1

-- what a result holds, where it is one of an operation of that type
abbrev pub op_held : (k : OpKind) → OpResult → Option (OpHeld k)
op_held kinds.Create (result.Path path) = Some path
op_held kinds.Create r = None
op_held kinds.Delete result.Empty = Some tt
op_held kinds.Delete r = None
op_held kinds.SetData (result.Stat stat) = Some stat
op_held kinds.SetData r = None
op_held kinds.Check result.Empty = Some tt
op_held kinds.Check r = None
op_held kinds.Create2 (result.PathStat path stat) = Some (path, stat)
op_held kinds.Create2 r = None

-- an operation's reply, by cases
abbrev pub op_replies : OpKind → Form OpResult
op_replies kinds.Create = partly (op_result kinds.Create) (op_held kinds.Create) (op_bodies kinds.Create)
op_replies kinds.Delete = partly (op_result kinds.Delete) (op_held kinds.Delete) (op_bodies kinds.Delete)
op_replies kinds.SetData = partly (op_result kinds.SetData) (op_held kinds.SetData) (op_bodies kinds.SetData)
op_replies kinds.Check = partly (op_result kinds.Check) (op_held kinds.Check) (op_bodies kinds.Check)
op_replies kinds.Create2 = partly (op_result kinds.Create2) (op_held kinds.Create2) (op_bodies kinds.Create2)

-- ---- marks: an int type and a boolean

-- the type of a mark: that of an operation, or -1
abbrev pub lead_number : Lead → ℤ
lead_number (leads.Listed k) = op_number k
lead_number leads.Closing = negsuc 0

-- the type of a number; a multi holds no other
unfoldable pub lead_named : ℤ → Option Lead
lead_named z = if int_eq z (negsuc 0) then Some leads.Closing else option_map (λ k. leads.Listed k) (op_named z)

-- behind the type -1 the boolean tells whether the results end
abbrev pub LeadHeld : Lead → Type 0
LeadHeld (leads.Listed k) = Unit {0}
LeadHeld leads.Closing = Bool

-- and its form
abbrev pub lead_bodies : (l : Lead) → Form (LeadHeld l)
lead_bodies (leads.Listed k) = nothing
lead_bodies leads.Closing = booleans

-- the end, or an error
abbrev pub closed : Bool → Mark
closed true = marks.Last
closed false = marks.Failing

-- the mark of a type and what is read behind it
abbrev pub mark_of : (l : Lead) × LeadHeld l → Mark
mark_of (leads.Listed k, u) = marks.Listed k
mark_of (leads.Closing, b) = closed b

-- and back
abbrev pub lead_in : Mark → (l : Lead) × LeadHeld l
lead_in (marks.Listed k) = (leads.Listed k, tt)
lead_in marks.Last = (leads.Closing, true)
lead_in marks.Failing = (leads.Closing, false)

-- an int that is the number of such a type; any other is refused
abbrev pub lead_forms : Form Lead
lead_forms = narrowed lead_named lead_number ints

-- a mark, whatever it may be
abbrev pub all_marks : Form Mark
all_marks = seen mark_of lead_in (tagged lead_forms lead_bodies)

-- among results: an operation's type, or None for the end
abbrev pub result_mark : Mark → Option (Option OpKind)
result_mark (marks.Listed k) = Some (Some k)
result_mark marks.Last = Some None
result_mark marks.Failing = None

-- and back
abbrev pub mark_of_result : Option OpKind → Mark
mark_of_result None = marks.Last
mark_of_result (Some k) = marks.Listed k

-- a mark among results; that of a failure is refused at its type
abbrev pub result_marks : Form (Option OpKind)
result_marks = narrowed result_mark mark_of_result all_marks

-- among failures: whether it is the end
abbrev pub failure_mark : Mark → Option Bool
failure_mark (marks.Listed k) = None
failure_mark marks.Last = Some true
failure_mark marks.Failing = Some false

-- and back
abbrev pub mark_of_failure : Bool → Mark
mark_of_failure true = marks.Last
mark_of_failure false = marks.Failing

-- a mark among failures; that of a result is refused at its type
abbrev pub failure_marks : Form Bool
failure_marks = narrowed failure_mark mark_of_failure all_marks

-- ---- what follows a mark

-- boolean 0 and int 0 behind the type, and the operation's reply
abbrev pub op_rests : (k : OpKind) → Form (OpHeld k)
op_rests k = seen (λ t. t.1.1) (λ h. (tt, (tt, h))) (fixed_booleans false ⊗ (fixed_ints (pos 0) ⊗ op_bodies k))

-- an operation's result, read behind its type
abbrev pub op_read : OpKind → Reading OpResult
op_read k p = (op_rests k).read p >>= λ h. Ok (op_result k h.0, h.1)

-- the same, by cases
abbrev pub op_results : OpKind → Reading OpResult
op_results kinds.Create = op_read kinds.Create
op_results kinds.Delete = op_read kinds.Delete
op_results kinds.SetData = op_read kinds.SetData
op_results kinds.Check = op_read kinds.Check
op_results kinds.Create2 = op_read kinds.Create2

-- the error's code, twice
abbrev pub codes : Form ℤ
codes = seen (λ t. t.0) (λ z. (z, tt)) (tagged ints (λ z. fixed_ints z))

-- the int -1 behind the end's boolean
abbrev pub ends : Form (Unit {0})
ends = fixed_ints (negsuc 0)

-- ---- one result after another

-- what follows a mark among results
abbrev pub ResultHeld : Option OpKind → Type 0
ResultHeld None = Unit {0}
ResultHeld (Some k) = OpHeld k

-- and its form
abbrev pub result_rests : (o : Option OpKind) → Form (ResultHeld o)
result_rests None = ends
result_rests (Some k) = op_rests k

-- the result of a mark and what follows it, or None for the end
abbrev pub result_of : (o : Option OpKind) × ResultHeld o → Option Answered
result_of (None, u) = None
result_of (Some k, h) = Some (op_number k, op_result k h)

-- what a result of an operation of that type holds
abbrev pub result_as : Option OpKind → OpResult → Option ((o : Option OpKind) × ResultHeld o)
result_as None r = None
result_as (Some k) r = option_map (λ h. (Some k, h)) (op_held k r)

-- and back, where the result is one of an operation of its type
abbrev pub result_in : Option Answered → Option ((o : Option OpKind) × ResultHeld o)
result_in None = Some (None, tt)
result_in (Some v) = result_as (op_named v.0) v.1

-- a result behind its mark, or the end mark
abbrev pub result_steps : Form (Option Answered)
result_steps = partly result_of result_in (tagged result_marks result_rests)

-- what follows a mark among failures
abbrev pub FailureHeld : Bool → Type 0
FailureHeld true = Unit {0}
FailureHeld false = ℤ

-- and its form
abbrev pub failure_rests : (b : Bool) → Form (FailureHeld b)
failure_rests true = ends
failure_rests false = codes

-- the code behind a mark, or None for the end
abbrev pub failure_of : (b : Bool) × FailureHeld b → Option ℤ
failure_of (true, u) = None
failure_of (false, z) = Some z

-- and back
abbrev pub failure_in : Option ℤ → (b : Bool) × FailureHeld b
failure_in None = (true, tt)
failure_in (Some z) = (false, z)

-- a failure behind its mark, or the end mark
abbrev pub failure_steps : Form (Option ℤ)
failure_steps = seen failure_of failure_in (tagged failure_marks failure_rests)

-- ---- all of them: the first mark tells whether they are results or failures

-- the results of a multi, or the codes of one that failed
pub data MultiReply : Type 0 where
  held : List Answered → MultiReply
  failed : List ℤ → MultiReply

-- what follows the first mark
abbrev pub MarkHeld : Mark → Type 0
MarkHeld (marks.Listed k) = OpHeld k × List Answered
MarkHeld marks.Last = Unit {0}
MarkHeld marks.Failing = ℤ × List ℤ

-- and its form
abbrev pub mark_rests : (m : Mark) → Form (MarkHeld m)
mark_rests (marks.Listed k) = op_rests k ⊗ untils result_steps
mark_rests marks.Last = ends
mark_rests marks.Failing = codes ⊗ untils failure_steps

-- the reply of the first mark and what follows it
abbrev pub multi_of : (m : Mark) × MarkHeld m → MultiReply
multi_of (marks.Listed k, h) = held ((op_number k, op_result k h.0) ∷ h.1)
multi_of (marks.Last, u) = held []
multi_of (marks.Failing, h) = failed (h.0 ∷ h.1)

-- results that begin with one of an operation of that type
abbrev pub begun_as : Option OpKind → OpResult → List Answered → Option ((m : Mark) × MarkHeld m)
begun_as None r xs = None
begun_as (Some k) r xs = option_map (λ h. (marks.Listed k, (h, xs))) (op_held k r)

-- and back; a failed multi has one code at least
abbrev pub multi_in : MultiReply → Option ((m : Mark) × MarkHeld m)
multi_in (held []) = Some (marks.Last, tt)
multi_in (held (x ∷ xs)) = begun_as (op_named x.0) x.1 xs
multi_in (failed []) = None
multi_in (failed (z ∷ zs)) = Some (marks.Failing, (z, zs))

-- the results up to the end mark
abbrev pub multis : Form MultiReply
multis = partly multi_of multi_in (tagged all_marks mark_rests)

-- ---- as a list is read

-- failures behind the first mark
abbrev pub failure_lists : Reading (List ℤ)
failure_lists p = codes.read p >>= λ z. behind_all (z.0 ∷ []) ((untils failure_steps).read z.1)

-- results behind the first type
abbrev pub result_lists : OpKind → Reading (List Answered)
result_lists k p = op_results k p >>= λ r. behind_all ((op_number k, r.0) ∷ []) ((untils result_steps).read r.1)
