-- tests on types
mod TypeTests
