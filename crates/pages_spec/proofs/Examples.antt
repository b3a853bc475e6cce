-- The examples, which the checker computes where they are defined.
use Rattle.pages_spec.specs.Promises.{Pages-agree}
use Rattle.pages_spec.specs.Examples as tests-of-pages

pub pages-agree : Pages-agree
pages-agree = tests-of-pages.pages-agree
