use Rattle.std.proofs.Common.{ℕ, ◌≤◌, ◌<◌, ◌+◌, ◌-◌, ◌≡◌, sym, subst, arith, leb, rules}
use Rattle.std.specs.List.Sorted.{IsPartitionPoint}
use Rattle.std.proofs.lemmas.List.Sorted.{IsPartitionPoint-from_clause, IsPartitionedBy-leb}
use Rattle.dw_lines.specs.declared.row.Row.{Row}
use Rattle.dw_addresses.proofs.AddressLemmas.{last_row_up_to, no_row_up_to, point_up_to}
use Rattle.dw_addresses.proofs.sequence.row_up_to.Goals as goal

pub returns-then-after-eq0 : goal.returns-then-after-eq0
returns-then-after-eq0 c =
    let P : ℕ → Type 0 = λ n. IsPartitionPoint (λ (r : Row). r.address ≤ c.args.address)
    (λ (r : Row). c.args.address < r.address) c.args.rows.now n in
    let e : c.partition_point-after.result ≡ 0 = omega arith in
    let found = point_up_to (λ (r : Row). r.address) c.args.address c.args.rows.now _ (
    IsPartitionPoint-from_clause (λ r. leb r.address c.args.address) _ _ c.partition_point-after.ensures.partitioned
    (IsPartitionedBy-leb (λ r. r.address) _ c.args.address c.requires) (λ a r q k. search rules)) in
    sym (no_row_up_to c.args.address c.args.rows.now (subst P e found).1)

pub returns : goal.returns
returns c =
    let P : ℕ → Type 0 = λ n. IsPartitionPoint (λ (r : Row). r.address ≤ c.args.address)
    (λ (r : Row). c.args.address < r.address) c.args.rows.now n in
    let m = c.partition_point-after.result - 1 in
    let e : c.partition_point-after.result ≡ m + 1 = omega arith in
    let found = point_up_to (λ (r : Row). r.address) c.args.address c.args.rows.now _ (
    IsPartitionPoint-from_clause (λ r. leb r.address c.args.address) _ _ c.partition_point-after.ensures.partitioned
    (IsPartitionedBy-leb (λ r. r.address) _ c.args.address c.requires) (λ a r q k. search rules)) in
    let point = subst P e found in
    sym (last_row_up_to c.args.address c.args.rows.now m _ (omega arith) point.0 point.1)
