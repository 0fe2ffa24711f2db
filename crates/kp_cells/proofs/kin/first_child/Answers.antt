use Rattle.std.proofs.Common.{◌≡◌, ℕ, ap, sym, ◌∙◌, cond, true, nat_eq, ◌||◌, Some}
use Rattle.std.specs.Prelude.{string_bytes}
use Rattle.std.specs.Str.{bytes_eq}
use Rattle.std.specs.Ordering.{nat_cmp, eq_by_cmp}
use Rattle.std.specs.BTreeSet.{contains}
use Rattle.std.specs.List.{list_any}
use Rattle.std.proofs.lemmas.Map.Text.{hash_map_updates_text}
use Rattle.kp_cells.specs.Kin.{kid_in, set_at, has_one}
use Rattle.kp_cells.proofs.Sets.{put_in, has_some, itself, kids_joined, filled_still}
use Rattle.kp_cells.proofs.kin.first_child.Goals as goal

pub returns-clause-ok : goal.returns-clause-ok
returns-clause-ok c =
    let s = c.insert.new.self in
    let has : (n : ℕ) → contains nat_cmp s n ≡ (kid_in (set_at c.args.kin.now.entries c.args.parent.now) n || nat_eq c.args.number n) = λ n.
    c.in_ok-insert.ensures.updates.0 n
    ∙ put_in c.args.number n (contains nat_cmp c.new-set.result n)
    ∙ ap (λ ks. list_any (eq_by_cmp nat_cmp n) ks || nat_eq c.args.number n) c.new-set.ensures.empty
    ∙ ap (λ r. kid_in r n || nat_eq c.args.number n) (sym c.requires) in
    kids_joined c.args.kin.now.entries c.insert-2.new.self.entries c.args.parent.now (Some s)
    (λ p. hash_map_updates_text (string_bytes c.in_ok-key.key) c.args.kin.now c.insert-2.new.self (Some s) c.in_ok-insert-2.ensures.updates p ∙ ap (λ q. cond (bytes_eq q p) (Some s) (set_at c.args.kin.now.entries p)) c.in_ok-key.ensures.ok)
    c.args.number has

pub returns-clause-filled : goal.returns-clause-filled
returns-clause-filled c =
    let s = c.insert.new.self in
    let one : has_one s.keys ≡ true = has_some s c.args.number (c.in_ok-insert.ensures.updates.0 c.args.number ∙ put_in c.args.number c.args.number (contains nat_cmp c.new-set.result c.args.number) ∙ itself (contains nat_cmp c.new-set.result c.args.number) c.args.number) in
    filled_still c.args.kin.now.entries c.insert-2.new.self.entries c.args.parent.now (Some s)
    (λ p. hash_map_updates_text (string_bytes c.in_ok-key.key) c.args.kin.now c.insert-2.new.self (Some s) c.in_ok-insert-2.ensures.updates p ∙ ap (λ q. cond (bytes_eq q p) (Some s) (set_at c.args.kin.now.entries p)) c.in_ok-key.ensures.ok)
    one
