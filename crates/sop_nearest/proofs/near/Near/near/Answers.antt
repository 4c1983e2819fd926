use Rattle.std.proofs.Common.{◌≡◌, ap, ◌∙◌, subst, sym, map, unsigned_abs, rules}
use Rattle.std.proofs.lemmas.Result.{IfOk-weaker}
use Rattle.sop_nearest.specs.PlainScan.{plain_scan, IsNearby}
use Rattle.sop_nearest.proofs.Scan.{numbers-from_sorted, scan_is_nearby}
use Rattle.sop_nearest.proofs.near.Near.near.Goals as goal

size : (c : goal.After-drop-hits) → c.unsigned_abs-radius.result ≡ unsigned_abs c.args.radius
size c = search rules

-- the numbers of the sorted hits are those of the scan
found : (c : goal.After-drop-hits) → map (λ h. h.number) c.deref.result.now ≡ plain_scan c.args.self.now c.args.center (unsigned_abs c.args.radius)
found c =
    ap (map (λ h. h.number)) c.deref.ensures.value
    ∙ numbers-from_sorted c.args.self.now (record { center = c.args.center; radius = c.unsigned_abs-radius.result }) c.in_ok-hits.hits.items c.sort_unstable.new.self.items c.in_ok-hits.ensures c.sort_unstable.ensures.permutation c.sort_unstable.ensures.sorted
    ∙ ap (plain_scan c.args.self.now c.args.center) (size c)

pub returns-clause-scan : goal.returns-clause-scan
returns-clause-scan c = IfOk-weaker c.numbers_of.result (λ numbers. numbers.items ≡ map (λ h. h.number) c.deref.result.now) (λ numbers. numbers.items ≡ plain_scan c.args.self.now c.args.center (unsigned_abs c.args.radius)) (λ numbers e. e ∙ found c) c.numbers_of.ensures

pub returns-clause-nearby : goal.returns-clause-nearby
returns-clause-nearby c =
    let radius = unsigned_abs c.args.radius in
    IfOk-weaker c.numbers_of.result (λ numbers. numbers.items ≡ map (λ h. h.number) c.deref.result.now) (λ numbers. IsNearby c.args.self.now c.args.center radius numbers.items)
    (λ numbers e. subst (IsNearby c.args.self.now c.args.center radius) (sym (e ∙ found c)) (scan_is_nearby c.args.self.now c.args.center radius)) c.numbers_of.ensures
