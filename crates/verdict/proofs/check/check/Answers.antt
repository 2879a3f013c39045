-- The theorem on the verdict stands beside what the check with its working memory says.
use Rattle.verdict.proofs.Exact.{verdict_is_exact}
use Rattle.verdict.proofs.check.check.Goals as goal

pub returns-then-bytes-lt1056 : goal.returns-then-bytes-lt1056
returns-then-bytes-lt1056 c = record { exact = c.check_with.ensures.exact; says = c.check_with.ensures.says; decodes = verdict_is_exact }

pub returns-then-bytes-lt4128 : goal.returns-then-bytes-lt4128
returns-then-bytes-lt4128 c =
    let e = c.check_with-then-bytes-lt4128.ensures in
    record { exact = e.exact; says = e.says; decodes = verdict_is_exact }

pub returns-else-bytes-lt4128 : goal.returns-else-bytes-lt4128
returns-else-bytes-lt4128 c =
    let e = c.check_with-else-bytes-lt4128.ensures in
    record { exact = e.exact; says = e.says; decodes = verdict_is_exact }
