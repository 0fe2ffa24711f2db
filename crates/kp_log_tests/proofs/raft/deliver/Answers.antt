use Rattle.std.proofs.Common.{◌≡◌, ℕ, List, refl}
use Rattle.kp_raft.specs.declared.append.AppendMail.{AppendMail}
use Rattle.kp_raft.specs.declared.mail.Mail.{Mail}
use Rattle.kp_raft.specs.declared.mail.Mail.TheVariants as mail
use Rattle.kp_raft.specs.Members.{IsNoAppend}
use Rattle.kp_log_tests.proofs.raft.deliver.Goals as goal

other_mail : {I : Type 0} (m : Mail I) → ((a : AppendMail) → m ≡ mail.Append a → ⊥) → IsNoAppend m
other_mail (mail.VoteReq term from last last_term) differs = tt
other_mail (mail.VoteRep term from granted) differs = tt
other_mail (mail.Append a) differs = absurd (differs a refl)
other_mail (mail.AppendRep term from ok last heard) differs = tt
other_mail (mail.Install term from index index_term image) differs = tt
other_mail (mail.InstallRep term from index) differs = tt
other_mail (mail.Forward term from body) differs = tt

pub step-requires : goal.step-requires
step-requires c = other_mail c.args.mail c.in_default.not-Append
