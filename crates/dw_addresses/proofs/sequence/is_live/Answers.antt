use Rattle.std.proofs.Common.{ℕ, ◌+◌, ◌-◌, ◌<◌, ◌≤◌, ◌≡◌, ◌&&◌, ◌∙◌, ap, sym, subst, arith, leb, lt-ltb, ltb, rules}
use Rattle.std.specs.List.{list_any}
use Rattle.std.specs.List.Sorted.{IsPartitionPoint}
use Rattle.std.proofs.lemmas.List.Sorted.{IsPartitionPoint-from_clause, IsPartitionedBy-leb}
use Rattle.dw_addresses.specs.Addresses.{encloses}
use Rattle.dw_addresses.proofs.AddressLemmas.{area_decides, areas_rise, no_area, point_up_to}
use Rattle.dw_addresses.proofs.sequence.is_live.Goals as goal

pub returns-then-after-gt0 : goal.returns-then-after-gt0
returns-then-after-gt0 c =
    let code = c.args.code.now in
    let some : c.args.low < c.args.high = omega arith in
    let m = c.partition_point-after.result - 1 in
    let e : c.partition_point-after.result ≡ m + 1 = omega arith in
    let P : ℕ → Type 0 = λ n. IsPartitionPoint (λ (x : ℕ × ℕ). x.0 ≤ c.args.low) (λ (x : ℕ × ℕ). c.args.low < x.0) code
    n in
    let point = point_up_to (λ x. x.0) c.args.low code _ (
    IsPartitionPoint-from_clause (λ x. leb x.0 c.args.low) _ _ c.partition_point-after.ensures.partitioned
    (IsPartitionedBy-leb (λ x. x.0) _ c.args.low (areas_rise code c.requires)) (λ a r q k. search rules)) in
    area_decides code c.requires c.args.low c.args.high some m (0, 0) (omega arith) (subst P e point)
    ∙ sym (ap (λ b. b && list_any (encloses c.args.low c.args.high) code) (lt-ltb c.args.low c.args.high some))

pub returns-else-after-gt0 : goal.returns-else-after-gt0
returns-else-after-gt0 c =
    let code = c.args.code.now in
    let some : c.args.low < c.args.high = omega arith in
    let e : c.partition_point-after.result ≡ 0 = omega arith in
    let P : ℕ → Type 0 = λ n. IsPartitionPoint (λ (x : ℕ × ℕ). x.0 ≤ c.args.low) (λ (x : ℕ × ℕ). c.args.low < x.0) code
    n in
    let point = point_up_to (λ x. x.0) c.args.low code _ (
    IsPartitionPoint-from_clause (λ x. leb x.0 c.args.low) _ _ c.partition_point-after.ensures.partitioned
    (IsPartitionedBy-leb (λ x. x.0) _ c.args.low (areas_rise code c.requires)) (λ a r q k. search rules)) in
    ap (ltb 0) e ∙ no_area code c.requires c.args.low c.args.high some (subst P e point) (0, 0)
    ∙ sym (ap (λ b. b && list_any (encloses c.args.low c.args.high) code) (lt-ltb c.args.low c.args.high some))
