pub mod SessionMap
